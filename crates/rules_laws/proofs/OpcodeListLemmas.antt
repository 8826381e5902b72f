-- Operators and statements by their numbers are those of the rows, and a list holds the same numbers.
use Rattle.std.proofs.Common.{◌≡◌, ℕ, zero, suc, ◌+◌, ◌*◌, ◌-◌, List, [], ◌∷◌, refl, sym, ap, ◌∙◌, take, drop, arith}
use Rattle.std.specs.Prelude.{◌||◌}
use Rattle.std.proofs.Math.Seq.{take-nil}
use Rattle.browser_rules.specs.Expressions.{sense_of}
use Rattle.browser_rules.specs.Opcodes.{is_a, a_statement, a_question, listed_values}
use Rattle.hii_bytes.specs.Numbers.{number_in}
use Rattle.ifr_opcodes.specs.ExpressionFields.{pairs, eq_id_val_list_count, eq_id_val_list_values}
use Rattle.ifr_opcodes.specs.Rows.{is_question_number, is_statement_number, operands, operands_of}

pub takes_same : (code : ℕ) → operands_of (sense_of (code ∷ [])) ≡ operands code
unfolding operands
takes_same code = refl

pub question_same : (code : ℕ) → is_a a_question (code ∷ []) ≡ is_question_number code
unfolding is_question_number
question_same code = refl

pub statement_same : (code : ℕ) → is_a a_statement (code ∷ []) || is_a a_question (code ∷ []) ≡ is_statement_number code
unfolding is_statement_number
statement_same code = refl

-- ---- the numbers of a list

-- an opcode that states so many of them
listing : ℕ → List ℕ → List ℕ
listing n bytes = 0 ∷ 0 ∷ 0 ∷ 0 ∷ n ∷ 0 ∷ bytes

listed_count : (n : ℕ) (bytes : List ℕ) → number_in (listing n bytes) 4 2 ≡ n
unfolding number_in listing
listed_count n bytes = omega arith

listed_pairs : (n : ℕ) (bytes : List ℕ) → listed_values (listing n bytes) ≡ pairs (take (2 * n) bytes)
unfolding listing
listed_pairs zero bytes = rw (listed_count zero bytes) refl
listed_pairs (suc n) [] = rw (listed_count (suc n) [], take-nil {A = ℕ} (2 * suc n)) refl
listed_pairs (suc n) (x ∷ []) =
    let two : 2 * suc n ≡ suc (suc (2 * n)) = omega arith in
    rw (listed_count (suc n) (x ∷ []), two) refl
listed_pairs (suc n) (low ∷ high ∷ bytes) =
    let two : 2 * suc n ≡ suc (suc (2 * n)) = omega arith in
    rw (listed_count (suc n) (low ∷ high ∷ bytes), two, sym (listed_count n bytes)) (ap (λ (l : List ℕ). (low + 256 * high) ∷ l) (listed_pairs n bytes ∙ ap (λ k. pairs (take (2 * k) bytes)) (sym (listed_count n bytes))))

listed_again : (op bytes : List ℕ) (n : ℕ) → number_in op 4 2 ≡ n → drop 6 op ≡ bytes → listed_values op ≡ pairs (take (2 * n) bytes)
unfolding listing
listed_again op bytes n count behind = rw (count, behind, sym (listed_count n bytes)) (listed_pairs n bytes ∙ ap (λ k. pairs (take (2 * k) bytes)) (sym (listed_count n bytes)))

pub listed_same : (op : List ℕ) → listed_values op ≡ eq_id_val_list_values op
listed_same op =
    let many : 6 + 2 * eq_id_val_list_count op - 6 ≡ 2 * eq_id_val_list_count op = omega arith in
    listed_again op (drop 6 op) (eq_id_val_list_count op) refl refl ∙ ap (λ n. pairs (take n (drop 6 op))) (sym many)
