use Rattle.std.proofs.Common.{ap, ◌∙◌}
use Rattle.hii_bytes.specs.Watching.{pen_of}
use Rattle.ifr_scopes.specs.code.ConditionsInLeft.{conditions_in_left}
use Rattle.hii_questions.specs.code.Views.{question_node}
use Rattle.guard_policy.specs.code.Views.{bytes_of}
use Rattle.guard_policy.proofs.RuleValueLemmas.{forgotten}
use Rattle.question_audit.specs.code.Pages.{audited}
use Rattle.question_audit.specs.ConditionFacts.{checks}
use Rattle.question_audit.proofs.BeginningLemmas.{at_error, stands_begun}
use Rattle.question_audit.proofs.FactLemmas.{all_left, past_item}
use Rattle.question_audit.proofs.OptionLemmas.{nothing_begun}
use Rattle.question_rows.specs.Conditions.{check_part}
use Rattle.question_rows.proofs.checks.put_checks.Goals as goal

pub loop-check-init : goal.loop-check-init
loop-check-init g c =
    let page = c.args.page in
    record {
      written = all_left (check_part (audited page)) (pen_of g.W.Write.contents c.args.out.now) (checks (question_node c.args.question)) (conditions_in_left c.conditions_in-checks.result) (c.conditions_in-checks.ensures ∙ ap checks c.statement.ensures);
      kept = forgotten (bytes_of page.policy) page.stores.now c.in_ok-rules.rules c.in_ok-rules.ensures;
    }

pub loop-check-preserved : goal.loop-check-preserved
loop-check-preserved g c = record {
  written = past_item (check_part (audited c.args.page)) _ _ _ _ _ _ _ c.in-Some.ensures.steps c.loop-check.invariant.written c.in_ok-put_check.ensures.told;
  kept = c.in_ok-put_check.ensures.kept;
}

pub returns-in_err-put_check-clause-begun : goal.returns-in_err-put_check-clause-begun
returns-in_err-put_check-clause-begun g c = at_error c.from_residual-in_err-put_check.result (rw c.in_err-put_check.ensures.nothing (stands_begun c.loop-check.invariant.written))

pub returns-in_err-rules-clause-begun : goal.returns-in_err-rules-clause-begun
returns-in_err-rules-clause-begun g c = at_error c.from_residual.result (nothing_begun _ _)
