use Rattle.std.proofs.Common.{ℕ, ◌<◌, ◌-◌, List, ◌∷◌, length, ap, sym, subst, ◌∙◌}
use Rattle.ifr_opcodes.specs.code.Ops.{op_of}
use Rattle.ifr_opcodes.specs.code.Views.{operator}
use Rattle.ifr_opcodes.specs.declared.expressions.ExprOp.{ExprOp}
use Rattle.ifr_opcodes.proofs.OperandLemmas.{leaf_takes, rule_ref_takes, unary_op_takes, binary_op_takes}
use Rattle.ifr_opcodes.specs.Opcode.{number}
use Rattle.ifr_opcodes.specs.Forest.{Mark}
use Rattle.ifr_expr.specs.Trees.{takes}
use Rattle.ifr_expr.specs.code.Expressions.{operators_left}
use Rattle.condition_text.specs.code.Streams.{openings}
use Rattle.condition_text.proofs.OpeningLemmas.{leaf_passed, unary_passed, unary_opens, some_beside, binary_passed, binary_opens, one_less}
use Rattle.condition_text.proofs.openings.Openings.next.Goals as goal

pub loop-op-preserved-in-Leaf : goal.loop-op-preserved-in-Leaf
loop-op-preserved-in-Leaf c =
    let is = ap (λ (o : ExprOp). op_of (operator o)) c.in-Leaf.is in
    leaf_passed _ _ _ _ (ap takes is ∙ leaf_takes c.in-Leaf.field-0) c.in-Some.ensures.steps ∙ c.loop-op.invariant

pub loop-op-preserved-in-RuleRef : goal.loop-op-preserved-in-RuleRef
loop-op-preserved-in-RuleRef c =
    let is = ap (λ (o : ExprOp). op_of (operator o)) c.in-RuleRef.is in
    leaf_passed _ _ _ _ (ap takes is ∙ rule_ref_takes c.in-RuleRef.field-0) c.in-Some.ensures.steps ∙ c.loop-op.invariant

pub loop-op-preserved-else-self-eq0 : goal.loop-op-preserved-else-self-eq0
loop-op-preserved-else-self-eq0 c =
    let is = ap (λ (o : ExprOp). op_of (operator o)) c.in-Unary.is in
    unary_passed _ _ _ _ c.if-self-eq0.false (ap takes is ∙ unary_op_takes c.in-Unary.op) c.in-Some.ensures.steps ∙ c.loop-op.invariant

pub returns-then-self-eq0 : goal.returns-then-self-eq0
returns-then-self-eq0 c =
    let is = ap (λ (o : ExprOp). op_of (operator o)) c.in-Unary.is in
    sym c.loop-op.invariant
    ∙ unary_opens _ _ _ _ c.in-Unary.op.operator c.if-self-eq0.true (ap takes is ∙ unary_op_takes c.in-Unary.op) (c.in-Unary.op.coded ∙ sym (ap (λ (m : Mark). number m.op) is)) c.in-Some.ensures.steps
    ∙ ap (λ (t : List ℕ). t ∷ openings c.loop-op.self.beside (operators_left c.next.new.self)) (sym c.opening.ensures)

pub overflow_sub-self : goal.overflow_sub-self
overflow_sub-self c =
    let is = ap (λ (o : ExprOp). op_of (operator o)) c.in-Binary.is in
    some_beside _ _ _ _ (ap takes is ∙ binary_op_takes c.in-Binary.field-0) c.in-Some.ensures.steps (subst (λ (l : List (List ℕ)). 0 < length l) (sym c.loop-op.invariant) c.requires)

pub returns-then-self-eq0-2 : goal.returns-then-self-eq0-2
returns-then-self-eq0-2 c =
    let is = ap (λ (o : ExprOp). op_of (operator o)) c.in-Binary.is in
    let some = some_beside _ _ _ _ (ap takes is ∙ binary_op_takes c.in-Binary.field-0) c.in-Some.ensures.steps (subst (λ (l : List (List ℕ)). 0 < length l) (sym c.loop-op.invariant) c.requires) in
    sym c.loop-op.invariant
    ∙ ap (λ (n : ℕ). openings n (operators_left c.loop-op.self.ops)) (one_less c.loop-op.self.beside some)
    ∙ binary_opens _ _ _ _ c.if-self-eq0-2.true (ap takes is ∙ binary_op_takes c.in-Binary.field-0) c.in-Some.ensures.steps
    ∙ ap (λ (t : List ℕ). t ∷ openings (c.loop-op.self.beside - 1) (operators_left c.next.new.self)) (sym c.opening-then-self-eq0-2.ensures)

pub loop-op-preserved : goal.loop-op-preserved
loop-op-preserved c =
    let is = ap (λ (o : ExprOp). op_of (operator o)) c.in-Binary.is in
    let some = some_beside _ _ _ _ (ap takes is ∙ binary_op_takes c.in-Binary.field-0) c.in-Some.ensures.steps (subst (λ (l : List (List ℕ)). 0 < length l) (sym c.loop-op.invariant) c.requires) in
    binary_passed _ _ _ _ c.if-self-eq0-2.false (ap takes is ∙ binary_op_takes c.in-Binary.field-0) c.in-Some.ensures.steps
    ∙ ap (λ (n : ℕ). openings n (operators_left c.loop-op.self.ops)) (sym (one_less c.loop-op.self.beside some))
    ∙ c.loop-op.invariant
