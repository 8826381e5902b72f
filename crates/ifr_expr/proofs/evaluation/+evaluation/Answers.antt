use Rattle.std.proofs.Common.{◌≡◌, ◌∷◌, ℕ, sym, ap, ◌∙◌, arith}
use Rattle.ifr_opcodes.specs.code.Codes.{unary_code, binary_code}
use Rattle.ifr_opcodes.specs.Forest.{Mark}
use Rattle.ifr_opcodes.specs.code.Ops.{op_of}
use Rattle.ifr_opcodes.specs.code.Views.{operator}
use Rattle.ifr_opcodes.proofs.OperandLemmas.{unary_op_takes, binary_op_takes}
use Rattle.ifr_expr.specs.code.Expressions.{tree_of, operators_left}
use Rattle.ifr_expr.specs.Meaning.{rule_values}
use Rattle.ifr_expr.specs.code.Views.{value_of}
use Rattle.ifr_expr.specs.declared.value.Operand.TheVariants.{Made}
use Rattle.ifr_expr.specs.declared.value.Outcome.TheVariants.{Undefined}
use Rattle.ifr_expr.proofs.EvaluationLemmas.{begun, some_operator, without_operands, no_other, at_first, arrived, is_goal, alone, stands_before, has_room, pushed, turned, one_waits, joined}
use Rattle.ifr_expr.proofs.RuleLemmas.{rule_given, rule_missing, reference_value}
use Rattle.ifr_expr.proofs.RuleValueLemmas.{kept_value, one_more}
use Rattle.ifr_expr.proofs.evaluation.+evaluation.Goals as goal

pub evaluate-unwrap-requires : goal.evaluate-unwrap-requires
evaluate-unwrap-requires g t c = some_operator c.args.expr c.operators-ops.result c.next.new.self c.next.result c.operators-ops.ensures c.next.ensures.steps

pub evaluate-returns-then-is_done-clause-value : goal.evaluate-returns-then-is_done-clause-value
evaluate-returns-then-is_done-clause-value g t c =
    let answers = g.W.World.answers c.args.world.now in
    let rules = rule_values (g.W.World.rules c.args.world.now) answers in
    let b = begun rules answers c.args.this 64 c.args.expr c.operators-ops.result c.next.new.self c.next.result c.unwrap.result c.operators-ops.ensures c.next.ensures.steps c.unwrap.ensures c.args.expr.checked.within in
    is_goal _ _ _ _ _ (operators_left c.next.new.self) c.operand_of-first.ensures.value (alone _ _ (operators_left c.next.new.self) (c.is_done.ensures c.if-is_done.true)) b.leads

pub evaluate-returns-then-needs_few-clause-value : goal.evaluate-returns-then-needs_few-clause-value
evaluate-returns-then-needs_few-clause-value g t c =
    let answers = g.W.World.answers c.args.world.now in
    let rules = rule_values (g.W.World.rules c.args.world.now) answers in
    let b = begun rules answers c.args.this 64 c.args.expr c.operators-ops.result c.next.new.self c.next.result c.unwrap.result c.operators-ops.ensures c.next.ensures.steps c.unwrap.ensures c.args.expr.checked.within in
    is_goal _ _ _ _ _ (operators_left c.next.new.self) c.operand_of-first.ensures.value c.evaluate_behind.ensures.value b.leads

pub evaluate-returns-else-needs_few-clause-value : goal.evaluate-returns-else-needs_few-clause-value
evaluate-returns-else-needs_few-clause-value g t c =
    let answers = g.W.World.answers c.args.world.now in
    let rules = rule_values (g.W.World.rules c.args.world.now) answers in
    let b = begun rules answers c.args.this 64 c.args.expr c.operators-ops.result c.next.new.self c.next.result c.unwrap.result c.operators-ops.ensures c.next.ensures.steps c.unwrap.ensures c.args.expr.checked.within in
    is_goal _ _ _ _ _ (operators_left c.next.new.self) c.operand_of-first.ensures.value c.evaluate_wide.ensures.value b.leads

pub evaluate_behind-loop-op-init : goal.evaluate_behind-loop-op-init
evaluate_behind-loop-op-init g t c = record { stands = at_first _ _ _ c.args.first c.args.waiting.now (operators_left c.args.ops) c.requires.fit (omega arith); kept = c.requires.kept }

pub evaluate_behind-overflow_sub-count : goal.evaluate_behind-overflow_sub-count
evaluate_behind-overflow_sub-count g t c =
    let e : operators_left c.loop-op.ops ≡ op_of c.in-Binary.op.op ∷ operators_left c.next.new.self = rw c.in-Binary.is at c.in-Some.ensures.steps in
    one_waits (op_of c.in-Binary.op.op) (operators_left c.next.new.self) c.loop-op.invariant.stands e (binary_op_takes c.in-Binary.op)

pub evaluate_behind-slice_copy_out-left : goal.evaluate_behind-slice_copy_out-left
evaluate_behind-slice_copy_out-left g t c =
    let e : operators_left c.loop-op.ops ≡ op_of c.in-Binary.op.op ∷ operators_left c.next.new.self = rw c.in-Binary.is at c.in-Some.ensures.steps in
    omega (arith, c.loop-op.invariant.stands.within, one_waits (op_of c.in-Binary.op.op) (operators_left c.next.new.self) c.loop-op.invariant.stands e (binary_op_takes c.in-Binary.op))

pub evaluate_behind-bounds-waiting-count : goal.evaluate_behind-bounds-waiting-count
evaluate_behind-bounds-waiting-count g t c =
    let none = without_operands c.in-Some.op c.in_default-op.not-Unary c.in_default-op.not-Binary in
    has_room (op_of (operator c.in-Some.op)) (operators_left c.next.new.self) c.loop-op.invariant.stands c.in-Some.ensures.steps none

pub evaluate_behind-loop-op-preserved-in-Unary : goal.evaluate_behind-loop-op-preserved-in-Unary
evaluate_behind-loop-op-preserved-in-Unary g t c =
    let e : operators_left c.loop-op.ops ≡ op_of c.in-Unary.op.op ∷ operators_left c.next.new.self = rw c.in-Unary.is at c.in-Some.ensures.steps in
    record {
      stands = turned (op_of c.in-Unary.op.op) (operators_left c.next.new.self) c.loop-op.invariant.stands e (Made c.unary.result) (unary_code c.in-Unary.op.operator) (value_of c.resolve.result) (unary_op_takes c.in-Unary.op) c.in-Unary.op.coded
          c.resolve.ensures c.unary.ensures;
      kept = c.loop-op.invariant.kept;
    }

pub evaluate_behind-loop-op-preserved-in-Binary : goal.evaluate_behind-loop-op-preserved-in-Binary
evaluate_behind-loop-op-preserved-in-Binary g t c =
    let e : operators_left c.loop-op.ops ≡ op_of c.in-Binary.op.op ∷ operators_left c.next.new.self = rw c.in-Binary.is at c.in-Some.ensures.steps in
    record {
      stands = joined (op_of c.in-Binary.op.op) (operators_left c.next.new.self) c.loop-op.invariant.stands e (Made c.binary.result) (Made Undefined) (binary_code c.in-Binary.op.operator) (value_of c.resolve-in-Binary.result)
          (value_of c.resolve-in-Binary-2.result) (binary_op_takes c.in-Binary.op) c.in-Binary.op.coded c.resolve-in-Binary.ensures c.resolve-in-Binary-2.ensures c.binary.ensures;
      kept = c.loop-op.invariant.kept;
    }

pub evaluate_behind-loop-op-preserved : goal.evaluate_behind-loop-op-preserved
evaluate_behind-loop-op-preserved g t c =
    let none = without_operands c.in-Some.op c.in_default-op.not-Unary c.in_default-op.not-Binary in
    record {
      stands = pushed (op_of (operator c.in-Some.op)) (operators_left c.next.new.self) c.loop-op.invariant.stands c.in-Some.ensures.steps c.operand_of-last.result none c.operand_of-last.ensures.value;
      kept = c.operand_of-last.ensures.kept;
    }

pub evaluate_behind-returns-clause-value : goal.evaluate_behind-returns-clause-value
evaluate_behind-returns-clause-value g t c = arrived c.loop-op.invariant.stands c.in_default.ensures.steps.0

pub evaluate-operand_of-first-requires : goal.evaluate-operand_of-first-requires
evaluate-operand_of-first-requires g t c κs within =
    let answers = g.W.World.answers c.args.world.now in
    let rules = rule_values (g.W.World.rules c.args.world.now) answers in
    let b = begun rules answers c.args.this 64 c.args.expr c.operators-ops.result c.next.new.self c.next.result c.unwrap.result c.operators-ops.ensures c.next.ensures.steps c.unwrap.ensures c.args.expr.checked.within in
    (omega (arith, c.decreases, b.here), (within.0, (within.1, (b.none, c.requires))))

pub evaluate-evaluate_behind-requires : goal.evaluate-evaluate_behind-requires
evaluate-evaluate_behind-requires g t c κs within =
    let answers = g.W.World.answers c.args.world.now in
    let rules = rule_values (g.W.World.rules c.args.world.now) answers in
    let b = begun rules answers c.args.this 9 c.args.expr c.operators-ops.result c.next.new.self c.next.result c.unwrap.result c.operators-ops.ensures c.next.ensures.steps c.unwrap.ensures (c.needs_few.ensures c.if-needs_few.true) in
    (omega (arith, c.decreases, b.inside), (within.0, (within.1, (b.fits, c.operand_of-first.ensures.kept))))

pub evaluate_wide-evaluate_behind-requires : goal.evaluate_wide-evaluate_behind-requires
evaluate_wide-evaluate_behind-requires g t c κs within = (omega (arith, c.decreases), (within.0, (within.1, (c.requires.fit, c.requires.kept))))

pub evaluate-evaluate_wide-requires : goal.evaluate-evaluate_wide-requires
evaluate-evaluate_wide-requires g t c κs within =
    let answers = g.W.World.answers c.args.world.now in
    let rules = rule_values (g.W.World.rules c.args.world.now) answers in
    let b = begun rules answers c.args.this 65 c.args.expr c.operators-ops.result c.next.new.self c.next.result c.unwrap.result c.operators-ops.ensures c.next.ensures.steps c.unwrap.ensures (omega (arith, c.args.expr.checked.within)) in
    (omega (arith, c.decreases, b.inside), (within.0, (within.1, (b.fits, c.operand_of-first.ensures.kept))))

pub evaluate_behind-operand_of-last-requires : goal.evaluate_behind-operand_of-last-requires
evaluate_behind-operand_of-last-requires g t c κs within =
    let none = without_operands c.in-Some.op c.in_default-op.not-Unary c.in_default-op.not-Binary in
    let before = stands_before (op_of (operator c.in-Some.op)) (operators_left c.next.new.self) c.loop-op.invariant.stands c.in-Some.ensures.steps in
    (omega (arith, c.decreases, before), (within.0, (within.1, (none, c.loop-op.invariant.kept))))

pub operand_of-unreachable-requires : goal.operand_of-unreachable-requires
operand_of-unreachable-requires g t c = no_other c.args.op c.in_default.not-Leaf c.in_default.not-RuleRef c.requires.leaf

pub operand_of-returns-in-RuleRef-clause-value : goal.operand_of-returns-in-RuleRef-clause-value
operand_of-returns-in-RuleRef-clause-value g t c =
    let answers = g.W.World.answers c.args.world.now in
    let rules = g.W.World.rules c.args.world.now in
    let op : Mark = op_of c.in-RuleRef.op.op in
    let told = reference_value (rule_values rules answers) answers c.args.this op c.in-RuleRef.op.coded in
    rw c.in-RuleRef.is (c.rule_value.ensures.value ∙ ap (λ (id : ℕ). rule_values rules answers id op.place) c.rule.ensures ∙ sym told)

pub referred-evaluate-requires : goal.referred-evaluate-requires
referred-evaluate-requires g t c κs within = (omega (arith, c.decreases, c.in-Some.ensures.before), (within.0, (within.1, c.requires)))

pub referred-returns-in-Some-clause-value : goal.referred-returns-in-Some-clause-value
referred-returns-in-Some-clause-value g t c =
    let answers = g.W.World.answers c.args.world.now in
    let rules = g.W.World.rules c.args.world.now in
    c.evaluate.ensures.value ∙ sym (rule_given rules answers c.args.reference.id c.args.reference.place (tree_of c.in-Some.rule) c.in-Some.ensures.ordered c.in-Some.ensures.named)

pub referred-returns-in-None-clause-value : goal.referred-returns-in-None-clause-value
referred-returns-in-None-clause-value g t c =
    let answers = g.W.World.answers c.args.world.now in
    let rules = g.W.World.rules c.args.world.now in
    sym (rule_missing rules answers c.args.reference.id c.args.reference.place c.in-None.ensures.named)

pub rule_value-returns-in-Some-value-clause-value : goal.rule_value-returns-in-Some-value-clause-value
rule_value-returns-in-Some-value-clause-value g t c =
    kept_value (g.W.World.rules c.args.world.now) (g.W.World.answers c.args.world.now) (g.M.Memo.kept c.args.memo.now) c.args.reference.id c.args.reference.place c.in-Some.number c.in-Some-value.value
    c.in-Some.ensures.ordered c.requires c.in-Some.ensures.number (sym c.in-Some-value.ensures)

pub rule_value-returns-clause-kept : goal.rule_value-returns-clause-kept
rule_value-returns-clause-kept g t c =
    one_more (g.W.World.rules c.args.world.now) (g.W.World.answers c.args.world.now) (g.M.Memo.kept c.referred-value.new.memo) (g.M.Memo.kept c.keep.new.self) c.args.reference.id c.args.reference.place c.in-Some.number c.referred-value.result
    c.in-Some.ensures.ordered c.referred-value.ensures.kept c.in-Some.ensures.number c.referred-value.ensures.value c.keep.ensures
