use Rattle.std.proofs.Common.{sym}
use Rattle.hii_bytes.specs.Watching.{pen_of}
use Rattle.ifr_nodes.specs.Guards.{guards}
use Rattle.ifr_scopes.specs.code.Lists.{guards_left, statement_node}
use Rattle.guard_policy.specs.code.Views.{bytes_of}
use Rattle.guard_policy.proofs.IndexedLemmas.{of_statement}
use Rattle.guard_policy.proofs.RuleValueLemmas.{forgotten}
use Rattle.question_audit.specs.code.Pages.{audited}
use Rattle.question_audit.proofs.AroundLemmas.{guards_found, same_forms}
use Rattle.question_audit.proofs.BeginningLemmas.{at_error, stands_begun}
use Rattle.question_audit.proofs.FactLemmas.{all_left, past_item}
use Rattle.question_audit.proofs.OptionLemmas.{nothing_begun}
use Rattle.question_rows.specs.Conditions.{guard_part}
use Rattle.question_rows.proofs.guards.put_guards.Goals as goal

pub loop-guard-init : goal.loop-guard-init
loop-guard-init g c =
    let page = c.args.page in
    let n = statement_node c.args.statement in
    let own = same_forms c.forms-forms.result.now c.policy.result page.policy c.forms-forms.ensures c.policy.ensures in
    record {
      written = all_left (guard_part (audited page)) (pen_of g.W.Write.contents c.args.out.now) (guards n) (guards_left c.guards_at-guards.result)
          (guards_found page.policy n _ c.place.result _ c.requires (of_statement n c.args.statement.statement) (sym c.place.ensures) own c.guards_at-guards.ensures.guards);
      kept = forgotten (bytes_of page.policy) page.stores.now c.in_ok-rules.rules c.in_ok-rules.ensures;
    }

pub loop-guard-preserved : goal.loop-guard-preserved
loop-guard-preserved g c = record {
  written = past_item (guard_part (audited c.args.page)) _ _ _ _ _ _ _ c.in-Some.ensures.steps c.loop-guard.invariant.written c.in_ok-put_guard.ensures.told;
  kept = c.in_ok-put_guard.ensures.kept;
}

pub returns-in_err-put_guard-clause-begun : goal.returns-in_err-put_guard-clause-begun
returns-in_err-put_guard-clause-begun g c = at_error c.from_residual-in_err-put_guard.result (rw c.in_err-put_guard.ensures.nothing (stands_begun c.loop-guard.invariant.written))

pub returns-in_err-rules-clause-begun : goal.returns-in_err-rules-clause-begun
returns-in_err-rules-clause-begun g c = at_error c.from_residual.result (nothing_begun _ _)
