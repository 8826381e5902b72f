-- The opcodes of statements and questions are long enough for what they share.
use Rattle.std.proofs.Common.{◌≡◌, ℕ, ◌+◌, ◌*◌, ◌≤◌, true, false, cond, ltb, leb, None, List, [], ◌∷◌, length, map, refl, arith, inl, inr}
use Rattle.std.specs.Prelude.{◌||◌, not}
use Rattle.std.proofs.lemmas.Bool.{cases_Bool, leb-true, le-leb, or_right}
use Rattle.browser_rules.specs.Opcodes.{row_of, is_a, a_question, a_statement, number_width}
use Rattle.ifr_opcodes.specs.QuestionFields.{numeric_flags}
use Rattle.ifr_opcodes.specs.declared.codes.TheConstants.{INCONSISTENT_IF, NO_SUBMIT_IF, WARNING_IF}
use Rattle.ifr_opcodes.specs.Rows.{is_question_number, is_statement_number, is_store_number, is_condition_number, is_ignored}
use Rattle.ifr_opcodes.specs.code.Tables.{row_length}
use Rattle.ifr_opcodes.proofs.TableLemmas.{numbers, of_kind}

-- a question is a statement
pub question_is_statement : (code : ℕ) → is_question_number code ≡ true → is_statement_number code ≡ true
unfolding is_question_number is_statement_number
question_is_statement code is = or_right (is_a a_statement (code ∷ [])) (is_a a_question (code ∷ [])) is

numeric_long : (least : ℕ) (op : List ℕ) → least ≤ 14 → leb least (cond (ltb (length op) 14) 14 (14 + 3 * number_width (numeric_flags op))) ≡ true
numeric_long least op few = elim (cases_Bool (ltb (length op) 14)) [
  | inl short ↦ rw short (le-leb least 14 few)
  | inr long ↦ rw long (le-leb least (14 + 3 * number_width (numeric_flags op)) (omega arith))
]

-- a question has the bytes of its header
questions_long : (op : List ℕ) → map (λ c. not (is_question_number c) || leb 13 (row_length c op)) numbers ≡ map (λ c. true) numbers
unfolding is_question_number row_of
questions_long op = rw (numeric_long 13 op (omega arith)) refl

pub none_asks : (code : ℕ) → row_of code ≡ None → is_question_number code ≡ false
unfolding is_question_number
none_asks code none = rw none refl

pub question_row : (op : List ℕ) (code : ℕ) → is_question_number code ≡ true → 13 ≤ row_length code op
question_row op code is = leb-true 13 (row_length code op) (of_kind is_question_number (λ c. leb 13 (row_length c op)) (questions_long op) none_asks code is)

-- and a statement
statements_long : (op : List ℕ) → map (λ c. not (is_statement_number c) || leb 6 (row_length c op)) numbers ≡ map (λ c. true) numbers
unfolding is_statement_number row_of
statements_long op = rw (numeric_long 6 op (omega arith)) refl

pub none_states : (code : ℕ) → row_of code ≡ None → is_statement_number code ≡ false
unfolding is_statement_number
none_states code none = rw none refl

pub statement_row : (op : List ℕ) (code : ℕ) → is_statement_number code ≡ true → 6 ≤ row_length code op
statement_row op code is = leb-true 6 (row_length code op) (of_kind is_statement_number (λ c. leb 6 (row_length c op)) (statements_long op) none_states code is)

-- ---- what a number without a row is not

pub none_stores : (code : ℕ) → row_of code ≡ None → is_store_number code ≡ false
unfolding is_store_number
none_stores code none = rw none refl

pub none_denies : (code : ℕ) → row_of code ≡ None → is_condition_number code ≡ false
unfolding is_condition_number
none_denies code none = rw none refl

pub none_ignored : (code : ℕ) → row_of code ≡ None → is_ignored code ≡ false
unfolding is_ignored
none_ignored code none = rw none refl

-- ---- the conditions of questions

pub inconsistent_is : is_condition_number INCONSISTENT_IF ≡ true
unfolding is_condition_number row_of
inconsistent_is = refl

pub no_submit_is : is_condition_number NO_SUBMIT_IF ≡ true
unfolding is_condition_number row_of
no_submit_is = refl

pub warning_is : is_condition_number WARNING_IF ≡ true
unfolding is_condition_number row_of
warning_is = refl
