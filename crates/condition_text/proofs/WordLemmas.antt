-- The words of operators are told apart.
use Rattle.std.proofs.Common.{◌≡◌, ◌==◌, ℕ, true, false, Some, List, [], ◌∷◌, ◌++◌, refl, subst, inl, inr}
use Rattle.std.specs.List.{AllByRecursion, list_any}
use Rattle.std.proofs.lemmas.Bool.{cases_Bool, eqb-true, false≢true, true≢false}
use Rattle.ifr_opcodes.specs.Rows.{is_among, operands}
use Rattle.ifr_opcodes.specs.code.Tables.{with_one_operand, with_two_operands}
use Rattle.ifr_opcodes.proofs.OperatorLemmas.{takes_one, takes_two}
use Rattle.condition_text.specs.Senses.{alone}
use Rattle.condition_text.specs.Texts.{word_in, constant_words, unary_words, binary_words}
use Rattle.condition_text.proofs.SplitLemmas.{split}
use Rattle.condition_text.proofs.Reader.{Read, ends_word, code_in, read_constant, read_operand, said, then_right, read_by}

-- what holds of each of some numbers holds of one of them
pub of_each : (P : ℕ → Type 0) (codes : List ℕ) (code : ℕ) → AllByRecursion P codes → is_among code codes ≡ true → P code
of_each P [] code all among = absurd (false≢true among)
of_each P (n ∷ codes) code all among = elim (cases_Bool (n == code)) [
  | inl same ↦ subst P (eqb-true n code same) all.0
  | inr other ↦ of_each P codes code all.1 (rw other at among)
]

-- no byte of a word ends it
pub none_ends : (word : List ℕ) → list_any ends_word word ≡ false → AllByRecursion (λ b. ends_word b ≡ false) word
none_ends [] none = tt
none_ends (b ∷ word) none = elim (cases_Bool (ends_word b)) [
  | inl ends ↦ absurd (true≢false (rw ends at none))
  | inr goes ↦ (goes, none_ends word (rw goes at none))
]

-- A word of an operator with two operands is told by its bytes, none of which ends it.
pub record IsBinaryWord (code : ℕ) : Type 0 where
  pub told : code_in binary_words (word_in binary_words code) ≡ Some code
  pub goes_on : list_any ends_word (word_in binary_words code) ≡ false

pub binary_word : (code : ℕ) → operands code ≡ Some 2 → IsBinaryWord code
binary_word code takes = of_each IsBinaryWord with_two_operands code (record { told = refl; goes_on = refl }, (record { told = refl; goes_on = refl }, (record { told = refl; goes_on = refl }, (record { told = refl; goes_on = refl }, (record { told = refl; goes_on = refl }, (record { told = refl; goes_on = refl }, (record { told = refl; goes_on = refl }, (record { told = refl; goes_on = refl }, (record { told = refl; goes_on = refl }, (record { told = refl; goes_on = refl }, (record { told = refl; goes_on = refl }, (record { told = refl; goes_on = refl }, (record { told = refl; goes_on = refl }, (record { told = refl; goes_on = refl }, (record { told = refl; goes_on = refl }, (record { told = refl; goes_on = refl }, (record { told = refl; goes_on = refl }, tt))))))))))))))))) (takes_two code takes)

-- A word that stands alone is told by its bytes, none of which ends it, and its first byte shows that it is a word.
pub record IsConstantWord (code : ℕ) : Type 0 where
  pub told : code_in constant_words (word_in constant_words code) ≡ Some code
  pub goes_on : list_any ends_word (word_in constant_words code) ≡ false
  pub operand : (inner : List ℕ → Read) (rest : List ℕ) → read_operand inner (word_in constant_words code ++ rest) ≡ read_constant (split ends_word (word_in constant_words code ++ rest))
  pub expression : (inner : List ℕ → Read) (rest : List ℕ) → read_by inner (word_in constant_words code ++ rest) ≡ then_right inner (read_operand inner (word_in constant_words code ++ rest))

pub constant_word : (code : ℕ) → is_among code alone ≡ true → IsConstantWord code
constant_word code among = of_each IsConstantWord alone code (record { told = refl; goes_on = refl; operand = λ inner rest. refl; expression = λ inner rest. refl }, (record { told = refl; goes_on = refl; operand = λ inner rest. refl; expression = λ inner rest. refl }, (record { told = refl; goes_on = refl; operand = λ inner rest. refl; expression = λ inner rest. refl }, (record { told = refl; goes_on = refl; operand = λ inner rest. refl; expression = λ inner rest. refl }, (record { told = refl; goes_on = refl; operand = λ inner rest. refl; expression = λ inner rest. refl }, (record { told = refl; goes_on = refl; operand = λ inner rest. refl; expression = λ inner rest. refl }, (record { told = refl; goes_on = refl; operand = λ inner rest. refl; expression = λ inner rest. refl }, tt))))))) among

-- the word of an operator with one operand is told
pub unary_word : (code : ℕ) → operands code ≡ Some 1 → (inner : List ℕ → Read) (rest : List ℕ)
    → read_by inner (word_in unary_words code ++ rest) ≡ said code (read_operand inner rest)
unary_word code takes =
    of_each (λ code. (inner : List ℕ → Read) (rest : List ℕ) → read_by inner (word_in unary_words code ++ rest) ≡ said code (read_operand inner rest))
    with_one_operand code (λ inner rest. refl, (λ inner rest. refl, tt)) (takes_one code takes)
