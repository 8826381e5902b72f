-- What expressions say (UEFI 2.8, 33.2.5.7 Expressions).
use Rattle.std.specs.Prelude.{◌≡◌, ℕ, ◌*◌, ◌^◌, ◌<◌, ◌==◌, true, if◌then◌else◌, Some, List, [], ◌∷◌}
use Rattle.std.specs.List.{AllByRecursion}
use Rattle.ifr_opcodes.specs.declared.codes.TheConstants.{EQ_ID_VAL, EQ_ID_ID, EQ_ID_VAL_LIST, QUESTION_REF1, RULE_REF, THIS}
use Rattle.ifr_opcodes.specs.Fields.{eq_id_val_question, eq_id_val_value, eq_id_id_first, eq_id_id_second, eq_id_val_list_question, eq_id_val_list_values, question_ref_question, rule_ref_rule, uint_width, uint_value, constants, uints}
use Rattle.ifr_opcodes.specs.Opcode.{number}
use Rattle.ifr_opcodes.specs.Rows.{is_among, operands}
use Rattle.ifr_expr.specs.Trees.{Tree, leaf, one, two}

-- What an expression says, without its place and without bytes that its operators ignore. Operators that have no fields are
-- told by their opcodes' numbers.
pub data Sense : Type 0 where
  eq_id_val : (question value : ℕ) → Sense
  eq_id_id : (first second : ℕ) → Sense
  eq_id_val_list : (question : ℕ) (values : List ℕ) → Sense
  question_ref : (question : ℕ) → Sense
  rule_ref : (rule : ℕ) → Sense
  uint : (bits value : ℕ) → Sense
  constant : (code : ℕ) → Sense
  unary : (code : ℕ) (operand : Sense) → Sense
  binary : (code : ℕ) (left right : Sense) → Sense

-- what the opcode of an operator without operands says
unfoldable pub leaf_sense : List ℕ → Sense
leaf_sense op =
    if number op == EQ_ID_VAL then eq_id_val (eq_id_val_question op) (eq_id_val_value op)
    else (if number op == EQ_ID_ID then eq_id_id (eq_id_id_first op) (eq_id_id_second op)
    else (if number op == EQ_ID_VAL_LIST
    then eq_id_val_list (eq_id_val_list_question op) (eq_id_val_list_values op)
    else (if number op == QUESTION_REF1 then question_ref (question_ref_question op)
    else (if number op == RULE_REF then rule_ref (rule_ref_rule op)
    else (if is_among (number op) uints then uint (8 * uint_width (number op)) (uint_value op)
    else constant (number op))))))

-- what a tree says
abbrev pub sense : Tree → Sense
sense (leaf op) = leaf_sense op.op
sense (one op operand) = unary (number op.op) (sense operand)
sense (two op left right) = binary (number op.op) (sense left) (sense right)

-- the operators that are a word alone: the constants, and the question in whose scope the expression stands
abbrev pub alone : List ℕ
alone = THIS ∷ constants

-- The operators are known ones, and the numbers fit the fields that hold them.
abbrev pub IsGood : Sense → Type 0
IsGood (eq_id_val question value) = (question < 2 ^ 16) × (value < 2 ^ 16)
IsGood (eq_id_id first second) = (first < 2 ^ 16) × (second < 2 ^ 16)
IsGood (eq_id_val_list question values) =
    (question < 2 ^ 16) × AllByRecursion (λ value. value < 2 ^ 16) values
IsGood (question_ref question) = question < 2 ^ 16
IsGood (rule_ref rule) = rule < 2 ^ 8
IsGood (uint bits value) = (is_among bits (8 ∷ 16 ∷ 32 ∷ 64 ∷ []) ≡ true) × (value < 2 ^ 64)
IsGood (constant code) = is_among code alone ≡ true
IsGood (unary code operand) = (operands code ≡ Some 1) × IsGood operand
IsGood (binary code left right) =
    (operands code ≡ Some 2) × (IsGood left × IsGood right)
