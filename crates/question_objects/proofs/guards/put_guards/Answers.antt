use Rattle.std.proofs.Common.{◌<◌, ◌≡◌, ℕ, List, length, arith, sym, ap, ◌∙◌}
use Rattle.hii_bytes.specs.Watching.{pen_of}
use Rattle.ifr_scopes.specs.code.Lists.{guard_node, statement_node}
use Rattle.guard_policy.specs.code.Views.{bytes_of}
use Rattle.guard_policy.proofs.IndexedLemmas.{of_statement}
use Rattle.question_audit.specs.code.Pages.{audited}
use Rattle.question_audit.proofs.AroundLemmas.{guards_found, same_forms}
use Rattle.question_audit.proofs.FlagLemmas.{guard_below}
use Rattle.question_objects.specs.Conditions.{guard_item}
use Rattle.question_objects.proofs.ListingLemmas.{first_left, item_next, none_left}
use Rattle.question_objects.proofs.guards.put_guards.Goals as goal

pub loop-guard-init : goal.loop-guard-init
loop-guard-init g c =
    let page = c.args.page in
    let n = statement_node c.args.statement in
    let own = same_forms c.forms.result.now c.policy.result page.policy c.forms.ensures c.policy.ensures in
    record {
      written = first_left _ (guard_item c.args.detail (audited page) c.args.package_place) (pen_of g.W.Write.contents c.args.out.now) _ _
          (guards_found page.policy n _ c.place.result _ c.requires.node (of_statement n c.args.statement.statement) (sym c.place.ensures) own c.guards_at-guards.ensures.guards);
      own = c.guards_at-guards.ensures.of_package ∙ own;
    }

pub put_guard-requires : goal.put_guard-requires
put_guard-requires g c =
    let guard = c.in-Some.guard in
    let below : (guard_node guard).place < length guard.ifr.now = guard_below guard.ifr.now guard.place guard.checked guard.stands in
    let same : length guard.ifr.now ≡ length (bytes_of c.args.page.policy) = ap (λ (b : List ℕ). length b) (c.in-Some.ensures.of_package ∙ c.loop-guard.invariant.own) in
    omega (arith, below, same, c.requires.in_file)

pub loop-guard-preserved : goal.loop-guard-preserved
loop-guard-preserved g c = record {
  written = item_next (guard_item c.args.detail (audited c.args.page) c.args.package_place) (guard_node c.in-Some.guard) c.in-Some.ensures.steps c.loop-guard.invariant.written c.put_guard.ensures;
  own = c.in-Some.ensures.kept ∙ c.loop-guard.invariant.own;
}

pub returns : goal.returns
returns g c = none_left (guard_item c.args.detail (audited c.args.page) c.args.package_place) c.in_default.ensures.steps.0 c.loop-guard.invariant.written c.put_array_end.ensures
