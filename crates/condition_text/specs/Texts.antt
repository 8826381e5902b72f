-- What expressions say, in words close to those of VFR (own rule; the operators are those of UEFI 2.8, 33.2.5.7 Expressions).
use Rattle.std.specs.Prelude.{ℕ, Bool, true, false, ◌==◌, if◌then◌else◌, List, [], ◌∷◌, ◌++◌, codes, decimal}
use Rattle.std.specs.List.{flat_map}
use Rattle.ifr_opcodes.specs.declared.codes.TheConstants.{TRUE, FALSE, ZERO, ONE, ONES, UNDEFINED, THIS, NOT, BITWISE_NOT, AND, OR, EQUAL, NOT_EQUAL, GREATER_THAN, GREATER_EQUAL, LESS_THAN, LESS_EQUAL, BITWISE_AND, BITWISE_OR, SHIFT_LEFT, SHIFT_RIGHT, ADD, SUBTRACT, MULTIPLY, DIVIDE, MODULO}
use Rattle.condition_text.specs.Senses.{Sense, eq_id_val, eq_id_id, eq_id_val_list, question_ref, rule_ref, uint, constant, unary, binary}

-- numbers of opcodes with their words
abbrev pub Words : Type 0
Words = List (ℕ × List ℕ)

abbrev pub constant_words : Words
constant_words =
    (TRUE, codes "TRUE") ∷ (FALSE, codes "FALSE") ∷ (ZERO, codes "ZERO") ∷ (ONE, codes "ONE")
    ∷ (ONES, codes "ONES") ∷ (UNDEFINED, codes "UNDEFINED") ∷ (THIS, codes "THIS") ∷ []

abbrev pub unary_words : Words
unary_words = (NOT, codes "not ") ∷ (BITWISE_NOT, codes "~") ∷ []

abbrev pub binary_words : Words
binary_words =
    (AND, codes "and") ∷ (OR, codes "or") ∷ (EQUAL, codes "==") ∷ (NOT_EQUAL, codes "!=")
    ∷ (GREATER_THAN, codes ">") ∷ (GREATER_EQUAL, codes ">=") ∷ (LESS_THAN, codes "<")
    ∷ (LESS_EQUAL, codes "<=") ∷ (BITWISE_AND, codes "&") ∷ (BITWISE_OR, codes "|")
    ∷ (SHIFT_LEFT, codes "<<") ∷ (SHIFT_RIGHT, codes ">>") ∷ (ADD, codes "+")
    ∷ (SUBTRACT, codes "-") ∷ (MULTIPLY, codes "*") ∷ (DIVIDE, codes "/") ∷ (MODULO, codes "%")
    ∷ []

-- the word of a number
abbrev pub word_in : Words → ℕ → List ℕ
word_in [] code = []
word_in (entry ∷ words) code = if entry.0 == code then entry.1 else word_in words code

-- whether it stands as an operand without parentheses
abbrev pub is_short : Sense → Bool
is_short (question_ref question) = true
is_short (rule_ref rule) = true
is_short (uint bits value) = true
is_short (constant code) = true
is_short _ = false

-- the text of an operand, by the text of what it says
abbrev pub as_operand : Sense → List ℕ → List ℕ
as_operand s said = if is_short s then said else codes "(" ++ said ++ codes ")"

-- what an expression says in words; numbers are decimal
unfoldable pub text : Sense → List ℕ
text (eq_id_val question value) = codes "ideqval q" ++ decimal question ++ codes " == " ++ decimal value
text (eq_id_id first second) = codes "ideqid q" ++ decimal first ++ codes " == q" ++ decimal second
text (eq_id_val_list question values) =
    codes "ideqvallist q" ++ decimal question ++ codes " =="
    ++ flat_map (λ value. codes " " ++ decimal value) values
text (question_ref question) = codes "questionref(" ++ decimal question ++ codes ")"
text (rule_ref rule) = codes "ruleref(" ++ decimal rule ++ codes ")"
text (uint bits value) = decimal value ++ codes "u" ++ decimal bits
text (constant code) = word_in constant_words code
text (unary code operand) = word_in unary_words code ++ as_operand operand (text operand)
text (binary code left right) =
    as_operand left (text left) ++ codes " " ++ word_in binary_words code ++ codes " "
    ++ as_operand right (text right)
