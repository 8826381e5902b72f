use Rattle.std.proofs.Common.{◌+◌, ◌*◌, [], ◌∷◌}
use Rattle.ifr_opcodes.specs.code.Ops.{op_of}
use Rattle.ifr_opcodes.specs.code.Views.{operator}
use Rattle.ifr_expr.specs.Meaning.{leaf_value, rule_values}
use Rattle.ifr_expr.specs.code.RuleValues.{AreValues}
use Rattle.ifr_expr.specs.code.Stacks.{operand_value, values_behind}
use Rattle.ifr_expr.specs.code.Expressions.{end_of, operators_left}
use Rattle.ifr_expr.proofs.EvaluationLemmas.{Stands}
use Rattle.ifr_expr.proofs.ValueLemmas.{limit}
use Rattle.ifr_expr.proofs.evaluation.+evaluation.Given as goal

abbrev pub decreases-evaluate : goal.decreases-evaluate
decreases-evaluate g l = 6 * end_of l.expr + 3

abbrev pub decreases-evaluate_wide : goal.decreases-evaluate_wide
decreases-evaluate_wide g l = 6 * limit (operators_left l.ops) + 2

abbrev pub decreases-evaluate_behind : goal.decreases-evaluate_behind
decreases-evaluate_behind g l = 6 * limit (operators_left l.ops) + 1

abbrev pub decreases-operand_of : goal.decreases-operand_of
decreases-operand_of g l = 6 * (op_of (operator l.op)).place + 6

abbrev pub decreases-rule_value : goal.decreases-rule_value
decreases-rule_value g l = 6 * l.reference.place + 5

abbrev pub decreases-referred : goal.decreases-referred
decreases-referred g l = 6 * l.reference.place + 4

abbrev pub invariant-evaluate_behind-loop-op : goal.invariant-evaluate_behind-loop-op
invariant-evaluate_behind-loop-op g l =
    let answers = g.W.World.answers l.world in
    let f = leaf_value (rule_values (g.W.World.rules l.world) answers) answers l.this in
    record {
      stands : Stands answers f (values_behind f (operand_value answers l.fn.first ∷ []) (operators_left l.fn.ops)) (limit (operators_left l.fn.ops)) l.last l.waiting l.count (operators_left l.ops);
      kept : AreValues (g.W.World.rules l.world) answers (g.M.Memo.kept l.memo);
    }
