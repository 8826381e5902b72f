-- Numbers of two bytes, one behind the other.
use Rattle.std.proofs.Common.{◌≡◌, ℕ, ◌+◌, ◌*◌, ◌≤◌, List, [], ◌∷◌, ◌++◌, length, drop, get_or, slice_index, add-zero, ◌∙◌, ap, arith, sym}
use Rattle.std.specs.Prelude.{decimal}
use Rattle.std.proofs.lemmas.List.{get_or-drop}
use Rattle.hii_bytes.specs.Numbers.{number_in}
use Rattle.std.specs.List.{flat_map}
use Rattle.browser_rules.specs.Opcodes.{two_byte_numbers}
use Rattle.hii_bytes.specs.Watching.{Pen, Writes}
use Rattle.hii_bytes.specs.code.Writing.{Stands}
use Rattle.hii_bytes.proofs.WritingLemmas.{past_piece}
use Rattle.opcode_audit.specs.Words.{behind_comma, numbers_text}

abbrev pub pair_in : List ℕ → ℕ
pair_in bytes = slice_index bytes 0 + 256 * slice_index bytes 1

few : {n : ℕ} → n ≤ 1 → 2 ≤ n → ⊥
few less more = omega (arith, less, more)

-- the number of two bytes is that of the first, and 256 times that of the second
pub two_bytes : (bytes : List ℕ) (at : ℕ) → number_in bytes at 1 + 256 * number_in bytes (at + 1) 1 ≡ number_in bytes at 2
unfolding number_in
two_bytes bytes at =
    let next : get_or (drop (at + 1) bytes) 0 0 ≡ get_or (drop at bytes) 1 0 = get_or-drop (at + 1) bytes 0 0 ∙ ap (λ (k : ℕ). get_or bytes k 0) (add-zero (at + 1)) ∙ sym (get_or-drop at bytes 1 0) in
    omega (arith, next)

pub numbers_begun : {a b : Pen} (bytes behind : List ℕ) → behind ≡ drop 2 bytes → 2 ≤ length bytes → Writes a b (decimal (pair_in bytes))
    → Stands a b (numbers_text (two_byte_numbers bytes)) (flat_map behind_comma (two_byte_numbers behind))
numbers_begun [] behind e some w = absurd (few (omega arith) some)
numbers_begun (byte ∷ []) behind e some w = absurd (few (omega arith) some)
numbers_begun (low ∷ high ∷ rest) behind e some w = record {
  front = decimal (low + 256 * high);
  parts = ap (λ (l : List ℕ). decimal (low + 256 * high) ++ flat_map behind_comma (two_byte_numbers l)) (sym e);
  written = w;
}

pub numbers_more : {a b c : Pen} {text : List ℕ} (rest behind : List ℕ) → behind ≡ drop 2 rest → 2 ≤ length rest → Stands a b text (flat_map behind_comma (two_byte_numbers rest)) → Writes b c (behind_comma (pair_in rest))
    → Stands a c text (flat_map behind_comma (two_byte_numbers behind))
numbers_more [] behind e some s w = absurd (few (omega arith) some)
numbers_more (byte ∷ []) behind e some s w = absurd (few (omega arith) some)
numbers_more (low ∷ high ∷ rest) behind e some s w =
    past_piece _ _ _ _ _ (behind_comma (low + 256 * high)) (flat_map behind_comma (two_byte_numbers behind))
    (ap (λ (l : List ℕ). behind_comma (low + 256 * high) ++ flat_map behind_comma (two_byte_numbers l)) (sym e)) s w
