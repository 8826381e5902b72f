use Rattle.std.proofs.Common.{◌≡◌, length}
use Rattle.std.specs.List.{flat_map}
use Rattle.ifr_expr.specs.code.Expressions.{operators_left, tree_of}
use Rattle.hii_questions.specs.code.Views.{question_view}
use Rattle.unlock_audit.specs.Constants.{mark_constants, tree_constants}
use Rattle.unlock_audit.specs.code.Offered.{offered_near}
use Rattle.unlock_audit.proofs.constants.Numeric.add_expression.Given as goal

-- what is near to the constants of the operators that are left is left to be added
abbrev pub invariant-loop-op : goal.invariant-loop-op
invariant-loop-op l =
    offered_near (question_view l.self.question) l.values.keys (flat_map mark_constants (operators_left l.left))
    ≡ offered_near (question_view l.self.question) l.fn.values.keys (tree_constants (tree_of l.expression))

abbrev pub decreases-loop-op : goal.decreases-loop-op
decreases-loop-op l = length (operators_left l.left)
