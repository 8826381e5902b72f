-- Numbers of opcodes have 64 bits, and what is written of them are words.
use Rattle.std.proofs.Common.{◌≡◌, ◌==◌, ◌||◌, ℕ, zero, suc, ◌*◌, ◌/◌, ◌%◌, ◌^◌, ◌<◌, ◌≤◌, nat_le, nat_lt, true, false, cond, List, [], ◌∷◌, ◌++◌, length, drop, Some, None, IfSome, slice_range, codes, refl, sym, ap₂, subst, arith}
use Rattle.std.specs.List.{list_all}
use Rattle.std.proofs.lemmas.Bool.{and_from, and_parts, cond_both}
use Rattle.std.proofs.lemmas.Str.{encode_ascii}
use Rattle.hii_bytes.specs.Numbers.{AreBytes, number_in}
use Rattle.ifr_opcodes.specs.Fields.{display, inconsistent_error, no_submit_error, numeric_width, ref_form_set, ref_target, warning_message}
use Rattle.ifr_opcodes.specs.Opcode.{number}
use Rattle.ifr_opcodes.specs.declared.codes.TheConstants.{INCONSISTENT_IF, NO_SUBMIT_IF}
use Rattle.ifr_opcodes.specs.declared.numbers.Display.{Display}
use Rattle.ifr_opcodes.specs.declared.numbers.Display.TheVariants.{Signed, Unsigned, Hexadecimal}
use Rattle.ifr_nodes.specs.NodeExpressions.{message}
use Rattle.hii_values.specs.Inputs.{number_of_bits}
use Rattle.form_page.specs.RowValues.{hex_digits, number_text}
use Rattle.form_page.specs.Texts.{utf8}
use Rattle.question_audit.specs.Limits.{shown_number, shown_step}
use Rattle.json_laws.specs.laws.Written.{IsWord, is_plain}
use Rattle.json_laws.proofs.WordLemmas.{Bytes, all_bytes, bytes_drop, bytes_take, decimal_word, plain_glyph, plain_range, signed_word, word_behind}
use Rattle.object_laws.proofs.OpcodeLemmas.{number_small}

-- ---- numbers

pub field_small : (op : List ℕ) (at width : ℕ) → AreBytes op → width ≤ 8 → number_in op at width < 2 ^ 64
unfolding number_in
field_small op at width are few = number_small (drop at op) width (bytes_drop at op (all_bytes op are)) few

pub one_byte : (op : List ℕ) (at : ℕ) → AreBytes op → number_in op at 1 < 2 ^ 64
one_byte op at are = field_small op at 1 are (omega arith)

pub two_bytes : (op : List ℕ) (at : ℕ) → AreBytes op → number_in op at 2 < 2 ^ 64
two_bytes op at are = field_small op at 2 are (omega arith)

pub message_small : (op : List ℕ) → AreBytes op → message op < 2 ^ 64
message_small op are =
    cond_both (number op == INCONSISTENT_IF) (inconsistent_error op) (cond (number op == NO_SUBMIT_IF) (no_submit_error op) (warning_message op)) (λ n. n < 2 ^ 64) (λ _. two_bytes op 2 are)
    (λ _. cond_both (number op == NO_SUBMIT_IF) (no_submit_error op) (warning_message op) (λ n. n < 2 ^ 64) (λ _. two_bytes op 2 are) (λ _. two_bytes op 2 are))

pub target_small : (op : List ℕ) → AreBytes op → IfSome (ref_target op) (λ id. id < 2 ^ 64)
target_small op are =
    cond_both (nat_lt (length op) 15 || nat_lt 32 (length op) || number_in op 13 2 == 0) None (Some (number_in op 13 2)) (λ o. IfSome o (λ id. id < 2 ^ 64)) (λ _. tt) (λ _. two_bytes op 13 are)

pub form_set_bytes : (op : List ℕ) → AreBytes op → IfSome (ref_form_set op) Bytes
form_set_bytes op are =
    cond_both (nat_le 33 (length op)) (Some (slice_range op 17 33)) None (λ o. IfSome o Bytes) (λ _. bytes_take 16 (drop 17 op) (bytes_drop 17 op (all_bytes op are))) (λ _. tt)

-- ---- words

hex_word : (count n : ℕ) → IsWord (hex_digits count n)
hex_word zero n = refl
hex_word (suc count) n = let d = n / 16 ^ count % 16 in and_from _ _ (plain_glyph false d (omega arith)) (hex_word count n)

pub number_word : (d : Display) (width n : ℕ) → IsWord (number_text d width n)
number_word Signed width n = signed_word (number_of_bits true width n)
number_word Unsigned width n = decimal_word n
number_word Hexadecimal width n = word_behind (codes "0x") (hex_digits (2 * width) n) refl (hex_word (2 * width) n)

word_spelled : (w : List ℕ) → IsWord w → utf8 w ≡ w
word_spelled [] plain = refl
word_spelled (c ∷ w) plain =
    let p = and_parts (is_plain c) (list_all is_plain w) plain in
    let range = plain_range c p.0 in
    ap₂ (λ (x y : List ℕ). x ++ y) (encode_ascii c (omega arith)) (word_spelled w p.1)

pub spelled_word : (w : List ℕ) → IsWord w → IsWord (utf8 w)
spelled_word w plain = subst IsWord (sym (word_spelled w plain)) plain

pub shown_word : (op : List ℕ) (n : ℕ) → IsWord (shown_number op n)
shown_word op n = spelled_word (number_text (display op) (numeric_width op) n) (number_word (display op) (numeric_width op) n)

pub step_word : (d : Display) (op : List ℕ) (step : ℕ) → IsWord (shown_step d op step)
step_word Hexadecimal op step = shown_word op step
step_word Signed op step = decimal_word step
step_word Unsigned op step = decimal_word step
