-- What may stand in some scopes, worked out by hand.
use Rattle.std.proofs.Common.{◌≡◌, ℕ, Bool, true, false, List, [], ◌∷◌, map, refl}
use Rattle.hii_bytes.specs.declared.cause.Cause.TheVariants.{Misplaced}
use Rattle.ifr_opcodes.specs.declared.codes.TheConstants.{FORM_SET, FORM, TEXT, ONE_OF, ONE_OF_OPTION, DEFAULT, GRAY_OUT_IF, SUPPRESS_IF}
use Rattle.ifr_opcodes.specs.Forest.{none, Ancestor}
use Rattle.ifr_opcodes.specs.Rows.{row_of, operands, is_question_number, is_statement_number, is_store_number, is_condition_number, is_ignored}
use Rattle.ifr_nodes.specs.Structure.{has_structure_fault}
use Rattle.ifr_nodes.specs.Table.{row}

-- an opcode of this number with Scope
abbrev scope : ℕ → Ancestor
scope code = record { place = 4; op = code ∷ 130 ∷ []; children = none }

-- whether an opcode is refused in the scope of the innermost of these, behind what that scope begins with
abbrev is_misplaced : List ℕ → ℕ → Bool
is_misplaced codes code = has_structure_fault (record { place = 100; op = code ∷ 2 ∷ []; path = map scope codes; children = none }) Misplaced

abbrev one_of : List ℕ
one_of = FORM_SET ∷ FORM ∷ ONE_OF ∷ []

abbrev guarded_one_of : List ℕ
guarded_one_of = FORM_SET ∷ FORM ∷ ONE_OF ∷ GRAY_OUT_IF ∷ []

-- a default may stand in a question, and not in a guard in it; an option may stand there too
default_in_question : is_misplaced one_of DEFAULT ≡ false
unfolding row is_statement_number is_question_number is_store_number is_condition_number is_ignored operands row_of
default_in_question = refl

default_in_guard : is_misplaced guarded_one_of DEFAULT ≡ true
unfolding row is_statement_number is_question_number is_store_number is_condition_number is_ignored operands row_of
default_in_guard = refl

option_in_guard : is_misplaced guarded_one_of ONE_OF_OPTION ≡ false
unfolding row is_statement_number is_question_number is_store_number is_condition_number is_ignored operands row_of
option_in_guard = refl

-- in a guard in that guard it is the same
default_in_guards : is_misplaced (FORM_SET ∷ FORM ∷ ONE_OF ∷ GRAY_OUT_IF ∷ SUPPRESS_IF ∷ []) DEFAULT ≡ true
unfolding row is_statement_number is_question_number is_store_number is_condition_number is_ignored operands row_of
default_in_guards = refl

option_in_guards : is_misplaced (FORM_SET ∷ FORM ∷ ONE_OF ∷ GRAY_OUT_IF ∷ SUPPRESS_IF ∷ []) ONE_OF_OPTION ≡ false
unfolding row is_statement_number is_question_number is_store_number is_condition_number is_ignored operands row_of
option_in_guards = refl

-- a guard around the question takes nothing from it
default_in_guarded_question : is_misplaced (FORM_SET ∷ FORM ∷ GRAY_OUT_IF ∷ ONE_OF ∷ []) DEFAULT ≡ false
unfolding row is_statement_number is_question_number is_store_number is_condition_number is_ignored operands row_of
default_in_guarded_question = refl

-- a guard in a form covers what stands in forms, one in the form set what stands there
text_in_form : is_misplaced (FORM_SET ∷ FORM ∷ SUPPRESS_IF ∷ []) TEXT ≡ false
unfolding row is_statement_number is_question_number is_store_number is_condition_number is_ignored operands row_of
text_in_form = refl

text_in_form_set : is_misplaced (FORM_SET ∷ SUPPRESS_IF ∷ []) TEXT ≡ true
unfolding row is_statement_number is_question_number is_store_number is_condition_number is_ignored operands row_of
text_in_form_set = refl

form_in_form_set : is_misplaced (FORM_SET ∷ SUPPRESS_IF ∷ []) FORM ≡ false
unfolding row is_statement_number is_question_number is_store_number is_condition_number is_ignored operands row_of
form_in_form_set = refl
