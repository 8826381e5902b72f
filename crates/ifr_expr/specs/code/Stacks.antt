-- A stack of values that wait for their operators.
use Rattle.std.specs.Prelude.{◌≡◌, ℕ, zero, suc, ◌+◌, ◌-◌, ◌≤◌, Option, Some, None, List, [], ◌∷◌, map, reverse}
use Rattle.ifr_opcodes.specs.Opcode.{number}
use Rattle.ifr_opcodes.specs.Forest.{Mark}
use Rattle.ifr_expr.specs.Counting.{wanted}
use Rattle.ifr_expr.specs.Meaning.{answered}
use Rattle.ifr_expr.specs.Trees.{takes}
use Rattle.ifr_expr.specs.Values.{Value, unary_value, binary_value}
use Rattle.ifr_expr.specs.code.Views.{outcome_value}
use Rattle.ifr_expr.specs.declared.value.Operand.{Operand}
use Rattle.ifr_expr.specs.declared.value.Operand.TheVariants.{Made, Answer}

-- the value of one, by what questions answer
abbrev pub operand_value : (ℕ → Value) → Operand → Value
operand_value answers (Made outcome) = outcome_value outcome
operand_value answers (Answer id) = answered answers id

-- the values of several, the last first
abbrev pub last_first : (ℕ → Value) → List Operand → List Value
last_first answers operands = reverse (map (operand_value answers) operands)

-- the value of an operator with one operand in place of its operand
abbrev pub with_unary : ℕ → List Value → List Value
with_unary code [] = []
with_unary code (value ∷ values) = unary_value code value ∷ values

-- the value of an operator with two operands in place of its operands
abbrev pub with_binary : ℕ → List Value → List Value
with_binary code (right ∷ left ∷ values) = binary_value code left right ∷ values
with_binary code _ = []

-- what an opcode that takes so many operands leaves of values, by what each without operands is
abbrev pub applied : (Mark → Value) → Option ℕ → Mark → List Value → List Value
applied leaf_of (Some zero) op values = leaf_of op ∷ values
applied leaf_of (Some (suc zero)) op values = with_unary (number op.op) values
applied leaf_of (Some (suc (suc n))) op values = with_binary (number op.op) values
applied leaf_of None op values = values

-- what opcodes leave of values, one after the other
unfoldable pub values_behind : (Mark → Value) → List Value → List Mark → List Value
values_behind leaf_of values [] = values
values_behind leaf_of values (op ∷ ops) =
    values_behind leaf_of (applied leaf_of (takes op) op values) ops

-- Behind so many values each opcode finds its operands, one value is left, and there are never more than `most` at once.
abbrev pub Fit : ℕ → ℕ → List Mark → Type 0
Fit most count [] = count ≡ 1
Fit most count (op ∷ ops) =
    (wanted op ≤ count) × (count - wanted op + 1 ≤ most) × Fit most (count - wanted op + 1) ops
