-- How many operands the operators of views take.
use Rattle.std.proofs.Common.{◌≡◌, ◌==◌, ◌||◌, ℕ, Bool, true, false, Some, refl, sym, ap, ◌∙◌}
use Rattle.std.proofs.lemmas.Bool.{eqb-true, false≢true}
use Rattle.browser_rules.specs.Words.{is_among}
use Rattle.ifr_opcodes.specs.declared.codes.TheConstants.{UINT8, UINT16, UINT32, UINT64}
use Rattle.ifr_opcodes.specs.declared.expressions.LeafOp.{LeafOp}
use Rattle.ifr_opcodes.specs.declared.expressions.LeafOp.TheVariants as leaf
use Rattle.ifr_opcodes.specs.declared.references.RuleRefOp.{RuleRefOp}
use Rattle.ifr_opcodes.specs.declared.expressions.UnaryOp.{UnaryOp}
use Rattle.ifr_opcodes.specs.declared.expressions.BinaryOp.{BinaryOp}
use Rattle.ifr_opcodes.specs.declared.operators.Constant.{Constant}
use Rattle.ifr_opcodes.specs.declared.operators.Constant.TheVariants as constant
use Rattle.ifr_opcodes.specs.declared.operators.Unary.{Unary}
use Rattle.ifr_opcodes.specs.declared.operators.Unary.TheVariants as unary
use Rattle.ifr_opcodes.specs.declared.operators.Binary.{Binary}
use Rattle.ifr_opcodes.specs.declared.operators.Binary.TheVariants as binary
use Rattle.ifr_opcodes.specs.code.Codes.{constant_code, unary_code, binary_code}
use Rattle.ifr_opcodes.specs.ExpressionFields.{uints}
use Rattle.ifr_opcodes.specs.Rows.{operands}
use Rattle.ifr_opcodes.specs.code.Views.{leaf_operator}
use Rattle.ifr_opcodes.proofs.RowLemmas.{takes}

constant_takes : (c : Constant) → operands (constant_code c) ≡ Some 0
constant_takes constant.True = takes _
constant_takes constant.False = takes _
constant_takes constant.Zero = takes _
constant_takes constant.One = takes _
constant_takes constant.Ones = takes _
constant_takes constant.Undefined = takes _

unary_takes : (u : Unary) → operands (unary_code u) ≡ Some 1
unary_takes unary.Not = takes _
unary_takes unary.BitwiseNot = takes _

binary_takes : (b : Binary) → operands (binary_code b) ≡ Some 2
binary_takes binary.And = takes _
binary_takes binary.Or = takes _
binary_takes binary.Equal = takes _
binary_takes binary.NotEqual = takes _
binary_takes binary.GreaterThan = takes _
binary_takes binary.GreaterEqual = takes _
binary_takes binary.LessThan = takes _
binary_takes binary.LessEqual = takes _
binary_takes binary.BitwiseAnd = takes _
binary_takes binary.BitwiseOr = takes _
binary_takes binary.ShiftLeft = takes _
binary_takes binary.ShiftRight = takes _
binary_takes binary.Add = takes _
binary_takes binary.Subtract = takes _
binary_takes binary.Multiply = takes _
binary_takes binary.Divide = takes _
binary_takes binary.Modulo = takes _

same_takes : (n code : ℕ) → (n == code) ≡ true → operands n ≡ Some 0 → operands code ≡ Some 0
same_takes n code e h = ap operands (sym (eqb-true n code e)) ∙ h

uint_takes : (code : ℕ) → is_among code uints ≡ true → operands code ≡ Some 0
uint_takes code h = go (UINT8 == code) (UINT16 == code) (UINT32 == code) (UINT64 == code) refl refl refl refl h
  where
    go : (a b c d : Bool) → (UINT8 == code) ≡ a → (UINT16 == code) ≡ b → (UINT32 == code) ≡ c → (UINT64 == code) ≡ d → (a || (b || (c || (d || false)))) ≡ true → operands code ≡ Some 0
    go true b c d e f g i h = same_takes UINT8 code e (takes _)
    go false true c d e f g i h = same_takes UINT16 code f (takes _)
    go false false true d e f g i h = same_takes UINT32 code g (takes _)
    go false false false true e f g i h = same_takes UINT64 code i (takes _)
    go false false false false e f g i h = absurd (false≢true h)

-- an operator without operands
pub leaf_takes : (op : LeafOp) → operands (leaf_operator op).code ≡ Some 0
leaf_takes (leaf.EqIdVal view) = rw view.coded (takes _)
leaf_takes (leaf.EqIdId view) = rw view.coded (takes _)
leaf_takes (leaf.EqIdValList view) = rw view.coded (takes _)
leaf_takes (leaf.QuestionRef view) = rw view.coded (takes _)
leaf_takes (leaf.Uint view) = uint_takes view.op.code view.coded
leaf_takes (leaf.Constant view) = ap operands (sym view.coded) ∙ constant_takes view.constant
leaf_takes (leaf.This view) = rw view.coded (takes _)

-- a reference to a rule
pub rule_ref_takes : (op : RuleRefOp) → operands op.op.code ≡ Some 0
rule_ref_takes op = rw op.coded (takes _)

-- an operator with one operand, and one with two
pub unary_op_takes : (op : UnaryOp) → operands op.op.code ≡ Some 1
unary_op_takes op = ap operands (sym op.coded) ∙ unary_takes op.operator

pub binary_op_takes : (op : BinaryOp) → operands op.op.code ≡ Some 2
binary_op_takes op = ap operands (sym op.coded) ∙ binary_takes op.operator
