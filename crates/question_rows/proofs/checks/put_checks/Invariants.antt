use Rattle.std.proofs.Common.{length}
use Rattle.std.specs.List.{flat_map}
use Rattle.hii_bytes.specs.Watching.{pen_of}
use Rattle.hii_bytes.specs.code.Writing.{Stands}
use Rattle.ifr_scopes.specs.code.ConditionsInLeft.{conditions_in_left}
use Rattle.hii_questions.specs.code.Views.{question_node}
use Rattle.guard_policy.specs.code.RuleValues.{AreRuleValues}
use Rattle.guard_policy.specs.code.Views.{bytes_of}
use Rattle.question_audit.specs.code.Pages.{audited}
use Rattle.question_rows.specs.Conditions.{check_part, checks_part}
use Rattle.question_rows.proofs.checks.put_checks.Given as goal

-- the checks before those that are left were written
abbrev pub invariant-loop-check : goal.invariant-loop-check
invariant-loop-check g l =
    let a = audited l.page in
    record {
      written : Stands (pen_of g.W.Write.contents l.fn.out) (pen_of g.W.Write.contents l.out) (checks_part a (question_node l.question)) (flat_map (check_part a) (conditions_in_left l.checks));
      kept : AreRuleValues (bytes_of l.page.policy) l.page.stores.now l.rules;
    }

abbrev pub decreases-loop-check : goal.decreases-loop-check
decreases-loop-check g l = length (conditions_in_left l.checks)
