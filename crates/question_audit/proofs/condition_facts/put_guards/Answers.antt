use Rattle.std.proofs.Common.{◌<◌, ◌≡◌, ℕ, List, length, arith, sym, ap, ◌∙◌}
use Rattle.hii_bytes.specs.Watching.{pen_of}
use Rattle.ifr_nodes.specs.Guards.{guards}
use Rattle.ifr_scopes.specs.code.Lists.{guard_node, guards_left, statement_node}
use Rattle.guard_policy.specs.code.Views.{bytes_of}
use Rattle.guard_policy.proofs.IndexedLemmas.{of_statement}
use Rattle.guard_policy.proofs.RuleValueLemmas.{forgotten}
use Rattle.question_audit.specs.code.Pages.{audited}
use Rattle.question_audit.specs.ConditionFacts.{guard_fact}
use Rattle.question_audit.proofs.AroundLemmas.{guards_found, same_forms}
use Rattle.question_audit.proofs.FlagLemmas.{guard_below}
use Rattle.question_audit.proofs.BeginningLemmas.{at_error, stands_begun}
use Rattle.question_audit.proofs.FactLemmas.{all_left, past_item}
use Rattle.question_audit.proofs.OptionLemmas.{nothing_begun}
use Rattle.question_audit.proofs.condition_facts.put_guards.Goals as goal

pub loop-guard-init : goal.loop-guard-init
loop-guard-init g c =
    let page = c.args.page in
    let n = statement_node c.args.statement in
    let own = same_forms c.forms-forms.result.now c.policy.result page.policy c.forms-forms.ensures c.policy.ensures in
    record {
      written = all_left (guard_fact (audited page) c.args.package_place) (pen_of g.W.Write.contents c.args.out.now) (guards n) (guards_left c.guards_at-guards.result)
          (guards_found page.policy n _ c.place.result _ c.requires.node (of_statement n c.args.statement.statement) (sym c.place.ensures) own c.guards_at-guards.ensures.guards);
      own = c.guards_at-guards.ensures.of_package ∙ own;
      kept = forgotten (bytes_of page.policy) page.stores.now c.in_ok-rules.rules c.in_ok-rules.ensures;
    }

pub put_guard-requires-clause-in_list : goal.put_guard-requires-clause-in_list
put_guard-requires-clause-in_list g c =
    let guard = c.in-Some.guard in
    let below : (guard_node guard).place < length guard.ifr.now = guard_below guard.ifr.now guard.place guard.checked guard.stands in
    let same : length guard.ifr.now ≡ length (bytes_of c.args.page.policy) = ap (λ (b : List ℕ). length b) (c.in-Some.ensures.of_package ∙ c.loop-guard.invariant.own) in
    omega (arith, below, same, c.requires.in_list)

pub loop-guard-preserved : goal.loop-guard-preserved
loop-guard-preserved g c = record {
  written = past_item (guard_fact (audited c.args.page) c.args.package_place) _ _ _ _ _ _ _ c.in-Some.ensures.steps c.loop-guard.invariant.written c.put_guard.ensures.told;
  own = c.in-Some.ensures.kept ∙ c.loop-guard.invariant.own;
  kept = c.put_guard.ensures.kept;
}
