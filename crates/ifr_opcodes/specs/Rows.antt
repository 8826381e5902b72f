-- What the rows of opcodes say of an opcode and of its number (UEFI 2.8, 33.3.8.3 Opcode Reference; which opcodes are known is
-- an own rule).
use Rattle.std.specs.Prelude.{◌≡◌, ℕ, Bool, true, false, not, ◌==◌, ◌||◌, ◌&&◌, Option, Some, None, is_some, List, [], ◌∷◌}
use Rattle.browser_rules.specs.Expressions.{sense_of}
use Rattle.browser_rules.specs.Opcodes.{number, is_a, a_question, a_statement, a_store, a_condition, ignored, Sense, no_operator, leaf, one, two}
pub use Rattle.browser_rules.specs.Opcodes.{is_outside, is_short}
unfoldable pub use Rattle.browser_rules.specs.Opcodes.{row_of}
pub use Rattle.browser_rules.specs.Words.{is_among}
use Rattle.browser_rules.specs.Words.{is_some_and}
use Rattle.hii_bytes.specs.declared.cause.Cause.{Cause}
use Rattle.hii_bytes.specs.declared.cause.Cause.TheVariants.{OpOutside, OpSize}
use Rattle.ifr_opcodes.specs.Forest.{Mark}

-- whether opcodes of this number are known
abbrev pub is_listed : ℕ → Bool
is_listed code = is_some (row_of code)

-- whether an opcode of a known number is refused all the same
abbrev pub is_left_out : List ℕ → Bool
is_left_out op = is_some_and (λ r. r.refused op) (row_of (number op))

-- an opcode of this number that is not left out
abbrev pub is_row : ℕ → List ℕ → Bool
is_row code op = number op == code && not (is_left_out op)

-- whether this is the number of a question, and of a statement
unfoldable pub is_question_number : ℕ → Bool
is_question_number code = is_a a_question (code ∷ [])

unfoldable pub is_statement_number : ℕ → Bool
is_statement_number code = is_a a_statement (code ∷ []) || is_a a_question (code ∷ [])

-- whether this is the number of a store, of a condition that a question has beside its options, and of an opcode of no effect
unfoldable pub is_store_number : ℕ → Bool
is_store_number code = is_a a_store (code ∷ [])

unfoldable pub is_condition_number : ℕ → Bool
is_condition_number code = is_a a_condition (code ∷ [])

unfoldable pub is_ignored : ℕ → Bool
is_ignored code = is_a ignored (code ∷ [])

-- how many operands an operator takes that makes this of them
abbrev pub operands_of : Sense → Option ℕ
operands_of no_operator = None
operands_of (leaf makes) = Some 0
operands_of (one makes) = Some 1
operands_of (two makes) = Some 2

-- how many operands the operator of this number takes, if it is one
unfoldable pub operands : ℕ → Option ℕ
operands code = operands_of (sense_of (code ∷ []))

abbrev pub is_operator : ℕ → Bool
is_operator code = is_some (operands code)

-- An opcode is none of those that are wanted, or has not all its fields.
abbrev pub IsMisread : (List ℕ → Bool) → Mark → Cause → ℕ → Type 0
IsMisread wanted op OpOutside place = (place ≡ op.place) × (wanted op.op ≡ false)
IsMisread wanted op OpSize place = (place ≡ op.place) × (is_short op.op ≡ true)
IsMisread wanted op _ place = ⊥

-- An opcode has not all its fields.
abbrev pub IsShort : Mark → Cause → ℕ → Type 0
IsShort op OpSize place = (place ≡ op.place) × (is_short op.op ≡ true)
IsShort op _ place = ⊥
