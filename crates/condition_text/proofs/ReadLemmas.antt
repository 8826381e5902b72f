-- The reader reads the texts of expressions, so that a text says one thing.
use Rattle.std.proofs.Common.{◌≡◌, ◌==◌, ℕ, zero, suc, ◌+◌, ◌^◌, ◌<◌, ◌≤◌, Bool, true, false, Option, Some, None, List, [], ◌∷◌, ◌++◌, length, refl, sym, ap, subst, ◌∙◌, arith, append_assoc, length-append, inl, inr}
use Rattle.std.specs.Prelude.{codes, decimal}
use Rattle.std.specs.List.{AllByRecursion, flat_map}
use Rattle.std.proofs.lemmas.Bool.{cases_Bool, cond-true, cond-false, eqb-true, true≢false}
use Rattle.ifr_opcodes.specs.Rows.{is_among}
use Rattle.condition_text.specs.Senses.{Sense, eq_id_val, eq_id_id, eq_id_val_list, question_ref, rule_ref, uint, constant, unary, binary, IsGood}
use Rattle.condition_text.specs.Texts.{text, as_operand, is_short, word_in, constant_words, unary_words, binary_words}
use Rattle.condition_text.proofs.SplitLemmas.{AtStop, split_all, no_digit, is_digit, head, read_number, number_read, digit_head}
use Rattle.condition_text.proofs.Reader.{Read, ends_word, read_values, then_number, then_values, then_bits, then_closed, constant_of, read_constant, closed, read_operand, said, both, behind_word, then_right, read_by, read}
use Rattle.condition_text.proofs.WordLemmas.{none_ends, binary_word, constant_word, unary_word}

abbrev closes : ℕ → Bool
closes b = b == 41

-- ---- what stands behind a text

of_three : (a b c d : List ℕ) → ((a ++ b) ++ c) ++ d ≡ a ++ (b ++ (c ++ d))
of_three a b c d = simp append_assoc

of_five : (a b c d e f : List ℕ) → ((((a ++ b) ++ c) ++ d) ++ e) ++ f ≡ a ++ (b ++ (c ++ (d ++ (e ++ f))))
of_five a b c d e f = simp append_assoc

ends_all : (P : ℕ → Type 0) (b : ℕ) → P 32 → P 41 → ends_word b ≡ true → P b
ends_all P b space parenthesis ends = elim (cases_Bool (b == 32)) [
  | inl same ↦ subst P (sym (eqb-true b 32 same)) space
  | inr other ↦ subst P (sym (eqb-true b 41 (rw other at ends))) parenthesis
]

closes_all : (P : ℕ → Type 0) (b : ℕ) → P 41 → closes b ≡ true → P b
closes_all P b parenthesis same = subst P (sym (eqb-true b 41 same)) parenthesis

no_more_digits : (rest : List ℕ) → AtStop ends_word rest → AtStop no_digit rest
no_more_digits [] at = tt
no_more_digits (b ∷ rest) at = ends_all (λ b. no_digit b ≡ true) b refl refl at

word_ended : (rest : List ℕ) → AtStop closes rest → AtStop ends_word rest
word_ended [] at = tt
word_ended (b ∷ rest) at = closes_all (λ b. ends_word b ≡ true) b refl at

no_space : (rest : List ℕ) → AtStop closes rest → (head rest == 32) ≡ false
no_space [] at = refl
no_space (b ∷ rest) at = closes_all (λ b. (b == 32) ≡ false) b refl at

nothing_right : (inner : List ℕ → Read) (s : Sense) (rest : List ℕ) → AtStop closes rest → then_right inner (Some (s, rest)) ≡ Some (s, rest)
nothing_right inner s rest at = cond-false (head rest == 32) _ _ (no_space rest at)

-- ---- operands

-- A reader reads what an expression says, up to a parenthesis that closes.
abbrev Reads : (List ℕ → Read) → Sense → Type 0
Reads inner s = (rest : List ℕ) → AtStop closes rest → inner (text s ++ rest) ≡ Some (s, rest)

in_parentheses : (inner : List ℕ → Read) (s : Sense) (rest : List ℕ) → Reads inner s → read_operand inner ((codes "(" ++ text s ++ codes ")") ++ rest) ≡ Some (s, rest)
in_parentheses inner s rest reads = ap closed (ap inner (append_assoc (text s) (codes ")") rest) ∙ reads (41 ∷ rest) refl)

a_number : (inner : List ℕ → Read) (bytes : List ℕ) → is_digit (head bytes) ≡ true → read_operand inner bytes ≡ then_bits (read_number bytes)
a_number inner bytes digit = cond-true (is_digit (head bytes)) _ _ digit

few_bits : (bits : ℕ) → is_among bits (8 ∷ 16 ∷ 32 ∷ 64 ∷ []) ≡ true → bits < 2 ^ 64
few_bits bits among = elim (cases_Bool (8 == bits)) [
  | inl e ↦ subst (λ n. n < 2 ^ 64) (eqb-true 8 bits e) (omega arith)
  | inr a ↦
      let among : is_among bits (16 ∷ 32 ∷ 64 ∷ []) ≡ true = rw a at among in
      elim (cases_Bool (16 == bits)) [
        | inl e ↦ subst (λ n. n < 2 ^ 64) (eqb-true 16 bits e) (omega arith)
        | inr b ↦
            let among : is_among bits (32 ∷ 64 ∷ []) ≡ true = rw b at among in
            elim (cases_Bool (32 == bits)) [
              | inl e ↦ subst (λ n. n < 2 ^ 64) (eqb-true 32 bits e) (omega arith)
              | inr c ↦
                  let among : is_among bits (64 ∷ []) ≡ true = rw c at among in
                  elim (cases_Bool (64 == bits)) [
                    | inl e ↦ subst (λ n. n < 2 ^ 64) (eqb-true 64 bits e) (omega arith)
                    | inr d ↦ absurd (true≢false (sym (rw d at among)))
                  ]
            ]
      ]
]

-- an operand is read, by a reader of what stands in parentheses
operand_read : (inner : List ℕ → Read) (s : Sense) (rest : List ℕ) → IsGood s → (is_short s ≡ false → Reads inner s) → AtStop ends_word rest
    → read_operand inner (as_operand s (text s) ++ rest) ≡ Some (s, rest)
unfolding text
operand_read inner (eq_id_val question value) rest good reads at = in_parentheses inner (eq_id_val question value) rest (reads refl)
operand_read inner (eq_id_id first second) rest good reads at = in_parentheses inner (eq_id_id first second) rest (reads refl)
operand_read inner (eq_id_val_list question values) rest good reads at = in_parentheses inner (eq_id_val_list question values) rest (reads refl)
operand_read inner (question_ref question) rest good reads at =
    ap (then_closed question_ref) (ap read_number (append_assoc (decimal question) (codes ")") rest) ∙ number_read question (41 ∷ rest) (omega arith) refl)
operand_read inner (rule_ref rule) rest good reads at =
    ap (then_closed rule_ref) (ap read_number (append_assoc (decimal rule) (codes ")") rest) ∙ number_read rule (41 ∷ rest) (omega arith) refl)
operand_read inner (uint bits value) rest good reads at =
    let behind : List ℕ = 117 ∷ (decimal bits ++ rest) in
    ap (read_operand inner) (of_three (decimal value) (codes "u") (decimal bits) rest)
    ∙ a_number inner (decimal value ++ behind) (digit_head value behind good.1)
    ∙ ap then_bits (number_read value behind good.1 refl)
    ∙ ap (λ (p : ℕ × List ℕ). Some (uint p.0 value, p.1)) (number_read bits rest (few_bits bits good.0) (no_more_digits rest at))
operand_read inner (constant code) rest good reads at =
    let word = constant_word code good in
    word.operand inner rest
    ∙ ap read_constant (split_all ends_word (word_in constant_words code) rest (none_ends _ word.goes_on) at)
    ∙ ap (λ (c : Option ℕ). constant_of c rest) word.told
operand_read inner (unary code operand) rest good reads at = in_parentheses inner (unary code operand) rest (reads refl)
operand_read inner (binary code left right) rest good reads at = in_parentheses inner (binary code left right) rest (reads refl)

-- no operand begins as what takes none to its left
as_left : (inner : List ℕ → Read) (s : Sense) (rest : List ℕ) → IsGood s → read_by inner (as_operand s (text s) ++ rest) ≡ then_right inner (read_operand inner (as_operand s (text s) ++ rest))
unfolding text
as_left inner (eq_id_val question value) rest good = refl
as_left inner (eq_id_id first second) rest good = refl
as_left inner (eq_id_val_list question values) rest good = refl
as_left inner (question_ref question) rest good = refl
as_left inner (rule_ref rule) rest good = refl
as_left inner (uint bits value) rest good =
    let behind : List ℕ = 117 ∷ (decimal bits ++ rest) in
    subst (λ (bytes : List ℕ). read_by inner bytes ≡ then_right inner (read_operand inner bytes)) (sym (of_three (decimal value) (codes "u") (decimal bits) rest))
    (cond-true (is_digit (head (decimal value ++ behind))) _ _ (digit_head value behind good.1))
as_left inner (constant code) rest good = (constant_word code good).expression inner rest
as_left inner (unary code operand) rest good = refl
as_left inner (binary code left right) rest good = refl

-- ---- lists of numbers

abbrev spaced : List ℕ → List ℕ
spaced values = flat_map (λ value. codes " " ++ decimal value) values

behind_value : (values rest : List ℕ) → AtStop closes rest → AtStop no_digit (spaced values ++ rest)
behind_value [] rest at = no_more_digits rest (word_ended rest at)
behind_value (value ∷ values) rest at = refl

values_read : (n : ℕ) (values rest : List ℕ) → AllByRecursion (λ value. value < 2 ^ 16) values → length values ≤ n → AtStop closes rest → read_values n (spaced values ++ rest) ≡ (values, rest)
values_read zero [] rest small few at = refl
values_read (suc n) [] rest small few at = cond-false (head rest == 32) _ _ (no_space rest at)
values_read zero (value ∷ values) rest small few at = absurd (omega arith)
values_read (suc n) (value ∷ values) rest small few at =
    let first : value < 2 ^ 64 = omega (arith, small.0) in
    ap (λ (p : ℕ × List ℕ). (p.0 ∷ (read_values n p.1).0, (read_values n p.1).1))
    (ap read_number (append_assoc (decimal value) (spaced values) rest) ∙ number_read value (spaced values ++ rest) first (behind_value values rest at))
    ∙ ap (λ (p : List ℕ × List ℕ). (value ∷ p.0, p.1)) (values_read n values rest small.1 (omega arith) at)

few_values : (values rest : List ℕ) → length values ≤ length (spaced values ++ rest)
few_values [] rest = omega arith
few_values (value ∷ values) rest =
    omega (arith, few_values values rest, length-append (decimal value ++ spaced values) rest, length-append (decimal value) (spaced values), length-append (spaced values) rest)

-- ---- expressions

-- A reader reads the operands.
abbrev ReadsParts : (List ℕ → Read) → Sense → Type 0
ReadsParts inner (unary code operand) = Reads inner operand
ReadsParts inner (binary code left right) = Reads inner left × Reads inner right
ReadsParts inner _ = Unit {0}

short_read : (inner : List ℕ → Read) (s : Sense) (rest : List ℕ) → IsGood s → is_short s ≡ true → AtStop closes rest → read_by inner (as_operand s (text s) ++ rest) ≡ Some (s, rest)
short_read inner s rest good short at =
    as_left inner s rest good
    ∙ ap (then_right inner) (operand_read inner s rest good (λ long. absurd (true≢false (sym short ∙ long))) (word_ended rest at))
    ∙ nothing_right inner s rest at

expression_read : (inner : List ℕ → Read) (s : Sense) (rest : List ℕ) → IsGood s → ReadsParts inner s → AtStop closes rest → read_by inner (text s ++ rest) ≡ Some (s, rest)
unfolding text
expression_read inner (eq_id_val question value) rest good parts at =
    ap (then_number eq_id_val 4)
    (ap read_number (of_three (decimal question) (codes " == ") (decimal value) rest) ∙ number_read question (codes " == " ++ (decimal value ++ rest)) (omega (arith, good.0)) refl)
    ∙ ap (λ (p : ℕ × List ℕ). Some (eq_id_val question p.0, p.1)) (number_read value rest (omega (arith, good.1)) (no_more_digits rest (word_ended rest at)))
expression_read inner (eq_id_id first second) rest good parts at =
    ap (then_number eq_id_id 5)
    (ap read_number (of_three (decimal first) (codes " == q") (decimal second) rest) ∙ number_read first (codes " == q" ++ (decimal second ++ rest)) (omega (arith, good.0)) refl)
    ∙ ap (λ (p : ℕ × List ℕ). Some (eq_id_id first p.0, p.1)) (number_read second rest (omega (arith, good.1)) (no_more_digits rest (word_ended rest at)))
expression_read inner (eq_id_val_list question values) rest good parts at =
    ap then_values
    (ap read_number (of_three (decimal question) (codes " ==") (spaced values) rest) ∙ number_read question (codes " ==" ++ (spaced values ++ rest)) (omega (arith, good.0)) refl)
    ∙ ap (λ (p : List ℕ × List ℕ). Some (eq_id_val_list question p.0, p.1))
    (values_read (length (codes " ==" ++ (spaced values ++ rest))) values rest good.1 (omega (arith, few_values values rest)) at)
expression_read inner (question_ref question) rest good parts at = short_read inner (question_ref question) rest good refl at
expression_read inner (rule_ref rule) rest good parts at = short_read inner (rule_ref rule) rest good refl at
expression_read inner (uint bits value) rest good parts at = short_read inner (uint bits value) rest good refl at
expression_read inner (constant code) rest good parts at = short_read inner (constant code) rest good refl at
expression_read inner (unary code operand) rest good parts at =
    ap (read_by inner) (append_assoc (word_in unary_words code) (as_operand operand (text operand)) rest)
    ∙ unary_word code good.0 inner (as_operand operand (text operand) ++ rest)
    ∙ ap (said code) (operand_read inner operand rest good.1 (λ _. parts) (word_ended rest at))
expression_read inner (binary code left right) rest good parts at =
    let word = binary_word code good.0 in
    let w : List ℕ = word_in binary_words code in
    let l : List ℕ = as_operand left (text left) in
    let r : List ℕ = as_operand right (text right) in
    let behind : List ℕ = 32 ∷ (w ++ (32 ∷ (r ++ rest))) in
    ap (read_by inner) (of_five l (codes " ") w (codes " ") r rest)
    ∙ as_left inner left behind good.1.0
    ∙ ap (then_right inner) (operand_read inner left behind good.1.0 (λ _. parts.0) refl)
    ∙ ap (behind_word inner left) (split_all ends_word w (32 ∷ (r ++ rest)) (none_ends w word.goes_on) refl)
    ∙ ap (λ (c : Option ℕ). both left c (read_operand inner (r ++ rest))) word.told
    ∙ ap (both left (Some code)) (operand_read inner right rest good.1.1 (λ _. parts.1) (word_ended rest at))

-- how many operators an expression has
abbrev size : Sense → ℕ
size (unary code operand) = size operand + 1
size (binary code left right) = size left + size right + 1
size _ = 1

parts_read : (inner : List ℕ → Read) (n : ℕ) (s : Sense) → ((t : Sense) → size t ≤ n → IsGood t → Reads inner t) → size s ≤ suc n → IsGood s → ReadsParts inner s
parts_read inner n (eq_id_val question value) all few good = tt
parts_read inner n (eq_id_id first second) all few good = tt
parts_read inner n (eq_id_val_list question values) all few good = tt
parts_read inner n (question_ref question) all few good = tt
parts_read inner n (rule_ref rule) all few good = tt
parts_read inner n (uint bits value) all few good = tt
parts_read inner n (constant code) all few good = tt
parts_read inner n (unary code operand) all few good = all operand (omega arith) good.1
parts_read inner n (binary code left right) all few good = (all left (omega arith) good.1.0, all right (omega arith) good.1.1)

some_size : (s : Sense) → 1 ≤ size s
some_size (eq_id_val question value) = omega arith
some_size (eq_id_id first second) = omega arith
some_size (eq_id_val_list question values) = omega arith
some_size (question_ref question) = omega arith
some_size (rule_ref rule) = omega arith
some_size (uint bits value) = omega arith
some_size (constant code) = omega arith
some_size (unary code operand) = omega arith
some_size (binary code left right) = omega arith

all_read : (n : ℕ) (s : Sense) → size s ≤ n → IsGood s → Reads (read n) s
unfolding read
all_read zero s few good rest at = absurd (omega (arith, some_size s))
all_read (suc n) s few good rest at = expression_read (read n) s rest good (parts_read (read n) n s (all_read n) few good) at

abbrev what : Sense → Read → Sense
what s None = s
what s (Some r) = r.0

-- senses with the same text are the same
pub one_sense : (s t : Sense) → IsGood s → IsGood t → text s ≡ text t → s ≡ t
one_sense s t good fine same =
    let n : ℕ = size s + size t in
    let a : read n (text s ++ []) ≡ Some (s, []) = all_read n s (omega arith) good [] tt in
    let b : read n (text t ++ []) ≡ Some (t, []) = all_read n t (omega arith) fine [] tt in
    ap (what s) (sym a ∙ ap (λ (bytes : List ℕ). read n (bytes ++ [])) same ∙ b)
