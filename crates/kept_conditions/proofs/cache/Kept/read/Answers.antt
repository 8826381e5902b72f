use Rattle.std.proofs.Common.{◌≡◌, ℕ, Bool, List, refl, sym, ap, ◌∙◌, subst}
use Rattle.hii_bytes.specs.code.FirstFaults.{Rise}
use Rattle.ifr_nodes.specs.Accepted.{IsAccepted}
use Rattle.ifr_nodes.specs.Nodes.{nodes_of}
use Rattle.guard_policy.specs.code.Views.{bytes_of, world}
use Rattle.guard_policy.specs.code.Worlds.{is_met_at}
use Rattle.guard_policy.proofs.ToldLemmas.{evaluated_told}
use Rattle.kept_conditions.specs.Kept.{Told}
use Rattle.kept_conditions.specs.code.Cache.{IsIndex, values_of}
use Rattle.kept_conditions.specs.declared.dependents.Dependent.{Dependent}
use Rattle.kept_conditions.proofs.IndexLemmas.{IsOver, is_index, values_read, with_positions}
use Rattle.kept_conditions.proofs.LookupLemmas.{rise_from}
use Rattle.kept_conditions.proofs.DependentLemmas.{TellsOver, told_kept}
use Rattle.kept_conditions.proofs.cache.Kept.read.Goals.{After-bytes, In_ok-dependents}
use Rattle.kept_conditions.proofs.cache.Kept.read.Goals as goal

module _ (c : In_ok-dependents) where
  abbrev bytes : List ℕ
  bytes = bytes_of c.args.policy

  abbrev holding : ℕ → Bool
  holding = is_met_at (world c.args.policy c.args.stores.now)

  accepted : IsAccepted bytes
  accepted = c.args.policy.accepted

  over : IsOver c.in_ok-collected.collected c.in_ok-dependents.dependents c.in_ok-index.index
  over = record {
    list = c.in_ok-dependents.ensures.list;
    round = c.in_ok-dependents.ensures.round;
    idle = c.in_ok-dependents.ensures.idle;
    room = c.in_ok-dependents.ensures.room;
    sorted = c.in_ok-index.ensures.sorted;
    all = c.in_ok-index.ensures.all;
    summed = c.in_ok-index.ensures.summed;
    gaps = c.in_ok-index.ensures.gaps;
    rise = c.in_ok-index.ensures.rise;
    dependencies = c.in_ok-index.ensures.dependencies;
    rule_uses = c.in_ok-index.ensures.rule_uses;
  }

  made : IsIndex bytes c.in_ok-dependents.dependents c.in_ok-index.index
  made = is_index bytes accepted holding c.in_ok-collected.collected c.in_ok-collected.ensures.collected c.in_ok-dependents.dependents c.in_ok-index.index over

  tells : TellsOver holding (nodes_of bytes) c.args.stores.now
  tells = told_kept holding (nodes_of bytes) c.args.policy.removed.now c.args.stores.now (evaluated_told bytes c.args.policy.removed.now c.args.stores.now accepted)

pub guard_dependents-requires : goal.guard_dependents-requires
guard_dependents-requires c =
    let at = (goal.at.guard_dependents-requires c).In_ok-dependents in
    subst (Rise (λ (r : Dependent). r.place) 0) (sym c.deref.ensures.value) (rise_from 0 c.in_ok-dependents.dependents.list.items (made at).rise)

pub condition_dependents-requires : goal.condition_dependents-requires
condition_dependents-requires c =
    let at = (goal.at.condition_dependents-requires c).In_ok-dependents in
    subst (Rise (λ (r : Dependent). r.place) 0) (sym c.deref-2.ensures.value) (rise_from 0 c.in_ok-dependents.dependents.list.items (made at).rise)

same_bytes : (c : After-bytes) → c.bytes.result.now ≡ bytes_of c.args.policy
same_bytes c = c.bytes.ensures.bytes ∙ c.forms-2.ensures

pub invariant_of-result : goal.invariant_of-result
invariant_of-result c =
    let at = (goal.at.invariant_of-result c).In_ok-dependents in
    with_positions c.bytes.result.now c.in_ok-dependents.dependents _ c.in_ok-index.index refl refl refl
    (subst (λ (b : List ℕ). IsIndex b c.in_ok-dependents.dependents c.in_ok-index.index) (sym (same_bytes c)) (made at))

pub returns-clause-kept : goal.returns-clause-kept
returns-clause-kept c =
    let at = (goal.at.returns-clause-kept c).In_ok-dependents in
    ap (λ (b : List ℕ). record { ifr = b; values = values_of c.in_ok-dependents.dependents }) (same_bytes c)
    ∙ ap (λ (values : List Told). record { ifr = bytes at; values = values })
    (values_read (bytes at) (accepted at) (holding at) c.in_ok-collected.collected c.in_ok-collected.ensures.collected c.in_ok-dependents.dependents c.in_ok-index.index (over at) c.args.stores.now (tells at))
