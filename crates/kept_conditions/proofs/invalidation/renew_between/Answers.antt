use Rattle.std.proofs.Common.{List, subst}
use Rattle.guard_policy.specs.code.Views.{bytes_of, world}
use Rattle.guard_policy.specs.code.Worlds.{is_met_at}
use Rattle.kept_conditions.specs.Touching.{difference}
use Rattle.kept_conditions.specs.code.Dependents.{Reaches}
use Rattle.kept_conditions.specs.code.Index.{depends_on}
use Rattle.kept_conditions.specs.declared.index.Dependency.{Dependency}
use Rattle.kept_conditions.proofs.DifferenceLemmas.{differing}
use Rattle.kept_conditions.proofs.RoundLemmas.{Begins, VisitsTouched, Ends, fresh_room, mid_ready, finished_count, finished_index, finished_values, told_by, values_by, values_for}
use Rattle.kept_conditions.proofs.invalidation.renew_between.Goals.{After-next_round, After-visit_differing-count, After-visit_pending}
use Rattle.kept_conditions.proofs.invalidation.renew_between.Goals as goal

begun : (c : After-next_round) → Begins (bytes_of c.args.policy) c.args.dependents.now c.next_round.new.self c.args.index.now
begun c = record { is = c.requires.index; before = c.next_round.ensures.before; same = c.next_round.ensures.same; pending = c.next_round.ensures.pending }

touching : (c : After-visit_differing-count) → VisitsTouched (is_met_at (world c.over-now.result.policy c.over-now.result.stores.now)) (difference c.args.old.now c.args.new.now) c.args.index.now c.next_round.new.self c.visit_differing-count.new.dependents c.visit_differing-count.result
touching c = record {
  visited = record {
    visits = c.visit_differing-count.ensures.visits;
    reaches = subst (λ (rs : List Dependency). Reaches (depends_on (difference c.args.old.now c.args.new.now) rs) c.next_round.new.self c.visit_differing-count.new.dependents) c.deref.ensures.value c.visit_differing-count.ensures.reaches;
    follows = c.visit_differing-count.ensures.follows;
  };
}

ending : (c : After-visit_pending) → Ends (is_met_at (world c.over-now.result.policy c.over-now.result.stores.now)) c.args.index.now c.deref-2.result.now c.visit_differing-count.new.dependents c.visit_pending.new.dependents c.visit_pending.result
ending c = record { rule_uses_are = c.deref-2.ensures.value; visits = c.visit_pending.ensures.visits; idle = c.visit_pending.ensures.idle; follow = c.visit_pending.ensures.follow; sound = c.visit_pending.ensures.sound }

pub returns-clause-index : goal.returns-clause-index
returns-clause-index c = let at = goal.at.returns-clause-index c in finished_index (begun at.After-next_round) (touching at.After-visit_differing-count) (ending c)

pub returns-clause-values : goal.returns-clause-values
returns-clause-values c =
    let at = goal.at.returns-clause-values c in
    finished_values (begun at.After-next_round) (touching at.After-visit_differing-count) (ending c) c.args.old.now c.args.new.now (differing c.args.old.now c.args.new.now c.requires.shape)
    (told_by c.args.policy c.over-now.result.policy c.args.new.now c.over-now.result.stores.now c.over-now.ensures.policy c.over-now.ensures.stores c.over-now.ensures.tells)

pub returns-clause-count : goal.returns-clause-count
returns-clause-count c = let at = goal.at.returns-clause-count c in finished_count (begun at.After-next_round) (touching at.After-visit_differing-count) (ending c)

-- ---- at the calls

pub visit_differing-count-requires-clause-room : goal.visit_differing-count-requires-clause-room
visit_differing-count-requires-clause-room c = fresh_room (begun (goal.at.visit_differing-count-requires-clause-room c).After-next_round)

pub visit_pending-requires : goal.visit_pending-requires
visit_pending-requires c =
    let at = goal.at.visit_pending-requires c in
    let ready = mid_ready (begun at.After-next_round) (touching at.After-visit_differing-count) _ c.deref-2.ensures.value in
    record { sorted = ready.sorted; are_uses = ready.are_uses; room = ready.room; follow = ready.follow; kept = c.visit_differing-count.ensures.kept }

pub visit_differing-count-requires-clause-kept : goal.visit_differing-count-requires-clause-kept
visit_differing-count-requires-clause-kept c = values_by c.args.policy c.over-now.result.policy c.args.new.now c.over-now.result.stores.now c.over-now.ensures.policy c.over-now.ensures.stores c.args.rules.now c.requires.kept

pub returns-clause-kept : goal.returns-clause-kept
returns-clause-kept c = values_for c.args.policy c.over-now.result.policy c.args.new.now c.over-now.result.stores.now c.over-now.ensures.policy c.over-now.ensures.stores c.visit_pending.new.rules c.visit_pending.ensures.kept
