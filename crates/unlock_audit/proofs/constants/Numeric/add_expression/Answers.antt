use Rattle.std.proofs.Common.{ap}
use Rattle.std.specs.List.{flat_map}
use Rattle.ifr_opcodes.specs.code.Ops.{op_of}
use Rattle.ifr_opcodes.specs.code.Views.{operator}
use Rattle.ifr_expr.specs.code.Expressions.{operators_left, tree_of}
use Rattle.hii_questions.specs.code.Views.{question_view}
use Rattle.unlock_audit.specs.Constants.{mark_constants, tree_constants}
use Rattle.unlock_audit.proofs.OfferedLemmas.{near_left}
use Rattle.unlock_audit.proofs.constants.Numeric.add_expression.Goals as goal

pub loop-op-preserved : goal.loop-op-preserved
loop-op-preserved c =
    near_left (question_view c.args.self.question) c.loop-op.values.keys c.add_operator.new.values.keys (flat_map mark_constants (operators_left c.loop-op.left)) (mark_constants (op_of (operator c.in-Some.op)))
    (flat_map mark_constants (operators_left c.next.new.self)) (tree_constants (tree_of c.args.expression)) c.args.values.now.keys
    (ap (flat_map mark_constants) c.in-Some.ensures.steps) c.in_ok-add_operator.ensures c.loop-op.invariant
