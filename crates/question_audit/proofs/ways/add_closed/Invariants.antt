use Rattle.std.proofs.Common.{◌≡◌, ◌++◌, length}
use Rattle.std.specs.List.{filter_map}
use Rattle.hii_bytes.specs.code.NumberSets.{has_number}
use Rattle.ifr_nodes.specs.Nodes.{statements}
use Rattle.ifr_nodes.specs.code.Checked.{AreNodesOf}
use Rattle.ifr_scopes.specs.code.Lists.{form_node}
use Rattle.ifr_scopes.specs.code.StatementsLeft.{statements_of_left}
use Rattle.guard_policy.specs.code.Views.{bytes_of}
use Rattle.form_page.specs.code.PageViews.{world_of}
use Rattle.question_audit.specs.code.Closings.{closed_reference}
use Rattle.question_audit.proofs.ways.add_closed.Given as goal

-- with the references of the statements that are left all are added
abbrev pub invariant-loop-statement : goal.invariant-loop-statement
invariant-loop-statement g l =
    let closing = closed_reference (world_of l.fn.page) (has_number l.fn.reached) in
    record {
      nodes : AreNodesOf (bytes_of l.fn.page.policy) (statements_of_left l.statements);
      added : l.closed.items ++ filter_map closing (statements_of_left l.statements) ≡ l.fn.closed.items ++ filter_map closing (statements (form_node l.fn.form));
    }

abbrev pub decreases-loop-statement : goal.decreases-loop-statement
decreases-loop-statement g l = length (statements_of_left l.statements)
