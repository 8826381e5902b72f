-- The value of what an expression says (UEFI 2.8, 33.2.5.7 Expressions).
use Rattle.std.specs.Prelude.{ℕ, ◌==◌, if◌then◌else◌}
use Rattle.ifr_opcodes.specs.declared.codes.TheConstants.{THIS}
use Rattle.ifr_expr.specs.Meaning.{answered}
use Rattle.ifr_expr.specs.Values.{Value, natural, are_same, is_one_of, constant_value, unary_value, binary_value}
use Rattle.condition_text.specs.Senses.{Sense, eq_id_val, eq_id_id, eq_id_val_list, question_ref, rule_ref, uint, constant, unary, binary}

-- the value by what the rule of an id is, what questions answer, and the id of the question in whose scope it stands, 0 for none
abbrev pub value_of_sense : (ℕ → Value) → (ℕ → Value) → ℕ → Sense → Value
value_of_sense rules answers this (eq_id_val question value) =
    are_same (answered answers question) (natural value)
value_of_sense rules answers this (eq_id_id first second) =
    are_same (answered answers first) (answered answers second)
value_of_sense rules answers this (eq_id_val_list question values) =
    is_one_of (answered answers question) values
value_of_sense rules answers this (question_ref question) = answered answers question
value_of_sense rules answers this (rule_ref rule) = rules rule
value_of_sense rules answers this (uint bits value) = natural value
value_of_sense rules answers this (constant code) =
    if code == THIS then answered answers this else constant_value code
value_of_sense rules answers this (unary code operand) =
    unary_value code (value_of_sense rules answers this operand)
value_of_sense rules answers this (binary code left right) =
    binary_value code (value_of_sense rules answers this left)
    (value_of_sense rules answers this right)
