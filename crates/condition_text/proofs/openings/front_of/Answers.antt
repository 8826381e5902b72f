use Rattle.std.proofs.Common.{ap, sym, ◌∙◌, arith}
use Rattle.ifr_opcodes.specs.Opcode.{number}
use Rattle.ifr_opcodes.specs.Forest.{Mark}
use Rattle.ifr_opcodes.specs.code.Ops.{op_of}
use Rattle.ifr_opcodes.specs.code.Views.{operator}
use Rattle.ifr_opcodes.specs.declared.expressions.ExprOp.{ExprOp}
use Rattle.ifr_opcodes.proofs.OperandLemmas.{leaf_takes, rule_ref_takes, unary_op_takes, binary_op_takes}
use Rattle.ifr_expr.specs.Trees.{takes}
use Rattle.ifr_expr.specs.code.Expressions.{operators_left}
use Rattle.condition_text.proofs.OpeningLemmas.{few_left, word_found}
use Rattle.condition_text.proofs.FrontLemmas.{begun, counts_leaf, counts_unary, counts_unary_opened, counts_binary, counts_binary_opened, all_counted}
use Rattle.condition_text.proofs.openings.front_of.Goals as goal

pub loop-op-init : goal.loop-op-init
loop-op-init c = begun (operators_left c.args.rest)

pub overflow_add-beside : goal.overflow_add-beside
overflow_add-beside c = omega (arith, c.loop-op.invariant.besides, few_left c.args.rest)

pub loop-op-preserved-in-Leaf : goal.loop-op-preserved-in-Leaf
loop-op-preserved-in-Leaf c =
    let is = ap (λ (o : ExprOp). op_of (operator o)) c.in-Leaf.is in
    counts_leaf _ _ _ _ _ _ (ap takes is ∙ leaf_takes c.in-Leaf.field-0) c.in-Some.ensures.steps c.loop-op.invariant

pub overflow_add-beside-in-RuleRef : goal.overflow_add-beside-in-RuleRef
overflow_add-beside-in-RuleRef c = omega (arith, c.loop-op.invariant.besides, few_left c.args.rest)

pub loop-op-preserved-in-RuleRef : goal.loop-op-preserved-in-RuleRef
loop-op-preserved-in-RuleRef c =
    let is = ap (λ (o : ExprOp). op_of (operator o)) c.in-RuleRef.is in
    counts_leaf _ _ _ _ _ _ (ap takes is ∙ rule_ref_takes c.in-RuleRef.field-0) c.in-Some.ensures.steps c.loop-op.invariant

pub overflow_add-opened : goal.overflow_add-opened
overflow_add-opened c = omega (arith, c.loop-op.invariant.openeds, few_left c.args.rest)

pub loop-op-preserved-then-beside-eq0 : goal.loop-op-preserved-then-beside-eq0
loop-op-preserved-then-beside-eq0 c =
    let is = ap (λ (o : ExprOp). op_of (operator o)) c.in-Unary.is in
    counts_unary_opened _ _ _ _ _ _ c.in-Unary.field-0.operator c.if-beside-eq0.true (ap takes is ∙ unary_op_takes c.in-Unary.field-0) (c.in-Unary.field-0.coded ∙ sym (ap (λ (m : Mark). number m.op) is)) c.in-Some.ensures.steps c.loop-op.invariant

pub loop-op-preserved-else-beside-eq0 : goal.loop-op-preserved-else-beside-eq0
loop-op-preserved-else-beside-eq0 c =
    let is = ap (λ (o : ExprOp). op_of (operator o)) c.in-Unary.is in
    counts_unary _ _ _ _ _ _ c.if-beside-eq0.false (ap takes is ∙ unary_op_takes c.in-Unary.field-0) c.in-Some.ensures.steps c.loop-op.invariant

pub returns-then-beside-eq0-2-clause-opened : goal.returns-then-beside-eq0-2-clause-opened
returns-then-beside-eq0-2-clause-opened c =
    let is = ap (λ (o : ExprOp). op_of (operator o)) c.in-Binary.is in
    all_counted _ _ _ _ _ _ c.if-beside-eq0-2.true (ap takes is ∙ binary_op_takes c.in-Binary.op) c.in-Some.ensures.steps c.loop-op.invariant

pub returns-then-beside-eq0-2-clause-word : goal.returns-then-beside-eq0-2-clause-word
returns-then-beside-eq0-2-clause-word c =
    let is = ap (λ (o : ExprOp). op_of (operator o)) c.in-Binary.is in
    word_found _ _ _ _ c.in-Binary.op.operator c.if-beside-eq0-2.true (ap takes is ∙ binary_op_takes c.in-Binary.op) (c.in-Binary.op.coded ∙ sym (ap (λ (m : Mark). number m.op) is)) c.in-Some.ensures.steps ∙ c.loop-op.invariant.word

pub overflow_add-opened-then-beside-eq0-3 : goal.overflow_add-opened-then-beside-eq0-3
overflow_add-opened-then-beside-eq0-3 c = omega (arith, c.loop-op.invariant.openeds, few_left c.args.rest)

pub loop-op-preserved-then-beside-eq0-3 : goal.loop-op-preserved-then-beside-eq0-3
loop-op-preserved-then-beside-eq0-3 c =
    let is = ap (λ (o : ExprOp). op_of (operator o)) c.in-Binary.is in
    counts_binary_opened _ _ _ _ _ _ c.if-beside-eq0-2.false c.if-beside-eq0-3.true (ap takes is ∙ binary_op_takes c.in-Binary.op) c.in-Some.ensures.steps c.loop-op.invariant

pub loop-op-preserved : goal.loop-op-preserved
loop-op-preserved c =
    let is = ap (λ (o : ExprOp). op_of (operator o)) c.in-Binary.is in
    counts_binary _ _ _ _ _ _ c.if-beside-eq0-2.false c.if-beside-eq0-3.false (ap takes is ∙ binary_op_takes c.in-Binary.op) c.in-Some.ensures.steps c.loop-op.invariant
