use Rattle.std.proofs.Common.{codes, length, map}
use Rattle.hii_bytes.specs.Watching.{pen_of}
use Rattle.ifr_nodes.specs.code.Checked.{AreNodesOf}
use Rattle.ifr_scopes.specs.code.ConditionsInLeft.{conditions_in_left}
use Rattle.hii_questions.specs.code.Views.{question_node}
use Rattle.guard_policy.specs.code.Views.{bytes_of}
use Rattle.question_audit.specs.code.Pages.{audited}
use Rattle.audit_json.proofs.ArrayLemmas.{Lists}
use Rattle.question_audit.specs.ConditionFacts.{checks}
use Rattle.question_objects.specs.Conditions.{check_item}
use Rattle.question_objects.proofs.checks.put_checks.Given as goal

-- the checks before those that are left were written
abbrev pub invariant-loop-check : goal.invariant-loop-check
invariant-loop-check g l =
    let item = check_item (audited l.page) l.package_place in
    record {
      written : Lists (codes "checks") (map item (checks (question_node l.question))) (map item (conditions_in_left l.checks)) l.is_first (pen_of g.W.Write.contents l.fn.out) (pen_of g.W.Write.contents l.out);
      nodes : AreNodesOf (bytes_of l.page.policy) (conditions_in_left l.checks);
    }

abbrev pub decreases-loop-check : goal.decreases-loop-check
decreases-loop-check g l = length (conditions_in_left l.checks)
