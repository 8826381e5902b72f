use Rattle.std.proofs.Common.{◌≡◌, length}
use Rattle.ifr_nodes.specs.Nodes.{statements}
use Rattle.ifr_nodes.specs.code.Checked.{AreNodesOf}
use Rattle.ifr_scopes.specs.code.Lists.{form_node}
use Rattle.ifr_scopes.specs.code.StatementsLeft.{statements_of_left}
use Rattle.guard_policy.specs.code.Views.{bytes_of}
use Rattle.form_page.specs.code.PageViews.{world_of}
use Rattle.question_audit.specs.code.Meeting.{led_by, with_forms}
use Rattle.question_audit.specs.code.MetForms.{forms_met}
use Rattle.question_audit.proofs.reach.Met.follow.Given as goal

-- with the forms to which the statements that are left lead, all are met
abbrev pub invariant-loop-statement : goal.invariant-loop-statement
invariant-loop-statement g l =
    let w = world_of l.fn.page in
    record {
      nodes : AreNodesOf (bytes_of l.fn.page.policy) (statements_of_left l.statements);
      met : with_forms (forms_met l.self) (led_by w (statements_of_left l.statements)) ≡ with_forms (forms_met l.fn.self) (led_by w (statements (form_node l.fn.form)));
    }

abbrev pub decreases-loop-statement : goal.decreases-loop-statement
decreases-loop-statement g l = length (statements_of_left l.statements)
