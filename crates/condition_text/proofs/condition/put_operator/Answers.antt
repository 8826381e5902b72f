use Rattle.std.proofs.Common.{refl, sym, ap}
use Rattle.hii_bytes.proofs.WritingLemmas.{◌⨾◌}
use Rattle.ifr_opcodes.specs.code.Ops.{op_of}
use Rattle.ifr_opcodes.specs.code.Views.{operator}
use Rattle.ifr_opcodes.specs.declared.expressions.ExprOp.{ExprOp}
use Rattle.ifr_opcodes.proofs.OperandLemmas.{leaf_takes, rule_ref_takes, unary_op_takes, binary_op_takes}
use Rattle.condition_text.proofs.LeafLemmas.{rule_ref_short}
use Rattle.condition_text.proofs.WriteLemmas.{written_as}
use Rattle.condition_text.proofs.StreamLemmas.{leaf_of, operator_of, short_operand}
use Rattle.condition_text.proofs.condition.put_operator.Goals as goal

pub returns-in-Leaf : goal.returns-in-Leaf
returns-in-Leaf g c =
    let is = ap (λ (o : ExprOp). op_of (operator o)) c.in-Leaf.is in
    written_as (c.put_before.ensures ⨾ c.put_operand.ensures) (leaf_of _ _ _ _ is (leaf_takes c.in-Leaf.op) refl)

pub returns-in-RuleRef : goal.returns-in-RuleRef
returns-in-RuleRef g c =
    let is = ap (λ (o : ExprOp). op_of (operator o)) c.in-RuleRef.is in
    written_as (c.put_before-in-RuleRef.ensures ⨾ c.put_rule_ref.ensures)
    (leaf_of _ _ _ _ is (rule_ref_takes c.in-RuleRef.op) (short_operand _ _ (sym (rule_ref_short c.in-RuleRef.op))))

pub returns-in-Unary : goal.returns-in-Unary
returns-in-Unary g c =
    let is = ap (λ (o : ExprOp). op_of (operator o)) c.in-Unary.is in
    written_as c.put_close.ensures (operator_of _ _ _ 0 is (unary_op_takes c.in-Unary.field-0))

pub returns-in-Binary : goal.returns-in-Binary
returns-in-Binary g c =
    let is = ap (λ (o : ExprOp). op_of (operator o)) c.in-Binary.is in
    written_as c.put_close-in-Binary.ensures (operator_of _ _ _ 1 is (binary_op_takes c.in-Binary.field-0))
