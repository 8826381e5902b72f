-- Units in blocks.
use Rattle.std.proofs.Common.{◌≡◌, ℕ, zero, suc, ◌+◌, ◌*◌, ◌≤◌, true, false, eqb, List, [], ◌∷◌, length, take, drop, refl, sym, ap, ◌∙◌, arith, inl, inr}
use Rattle.std.specs.Prelude.{◌&&◌, ◌||◌, not}
use Rattle.std.specs.List.{list_all}
use Rattle.std.proofs.lemmas.Bool.{and_parts, cases_Bool, eqb-true, eq-eqb, ne_eqb}
use Rattle.byteorder.specs.Endian.{little_number}
use Rattle.hii_values.specs.Items.{is_item, items_in}
use Rattle.hii_values.specs.code.UnitBlocks.{are_units}
use Rattle.hii_values.proofs.ItemLemmas.{numbers_more, items_more}

-- a unit in front of others
pub units_more : (bytes : List ℕ) → 2 ≤ length bytes → are_units bytes ≡ (is_item (little_number 2 bytes) && are_units (drop 2 bytes))
units_more bytes long = ap (list_all is_item) (numbers_more 2 bytes (omega arith) long)

-- a unit is 0 where both of its bytes are
high_alone : (low high : ℕ) → low ≡ 0 → is_item (low + 256 * (high + 0)) ≡ not (eqb high 0)
high_alone low high none = elim (cases_Bool (eqb high 0)) [
  | inl is ↦ (let h : low + 256 * (high + 0) ≡ 0 = omega (arith, none, eqb-true high 0 is) in ap not (eq-eqb (low + 256 * (high + 0)) 0 h ∙ sym is))
  | inr other ↦ (let h : low + 256 * (high + 0) ≡ 0 → ⊥ = λ e. (let both = sym other ∙ eq-eqb high 0 (omega (arith, e)) in absurd cc) in ap not (ne_eqb (low + 256 * (high + 0)) 0 h ∙ sym other))
]

pub unit_is : (low high : ℕ) → (not (eqb low 0) || not (eqb high 0)) ≡ is_item (low + 256 * (high + 0))
unit_is low high = elim (cases_Bool (eqb low 0)) [
  | inl is ↦ ap (λ b. not b || not (eqb high 0)) is ∙ sym (high_alone low high (eqb-true low 0 is))
  | inr other ↦ (let h : low + 256 * (high + 0) ≡ 0 → ⊥ = λ e. (let both = sym other ∙ eq-eqb low 0 (omega (arith, e)) in absurd cc) in ap (λ b. not b || not (eqb high 0)) other ∙ sym (ap not (ne_eqb (low + 256 * (high + 0)) 0 h)))
]

item_some : (n : ℕ) → is_item n ≡ true → eqb n 0 ≡ false
item_some zero h = absurd cc
item_some (suc n) h = ne_eqb (suc n) 0 (λ e. absurd (omega (arith, e)))

abbrev pub twice : ℕ → ℕ
twice zero = zero
twice (suc k) = suc (suc (twice k))

-- so many units that are not 0 are items
pub units_in_front : (k : ℕ) (bytes : List ℕ) → twice k ≤ length bytes → are_units (take (twice k) bytes) ≡ true → twice k + length (items_in 2 (drop (twice k) bytes)) * 2 ≡ length (items_in 2 bytes) * 2
units_in_front zero bytes long are = omega arith
units_in_front (suc k) [] long are = absurd (omega (arith, long))
units_in_front (suc k) (low ∷ []) long are = absurd (omega (arith, long))
units_in_front (suc k) (low ∷ high ∷ bytes) long are =
    let n : ℕ = little_number 2 (low ∷ high ∷ bytes) in
    let front : List ℕ = low ∷ high ∷ take (twice k) bytes in
    let parts = and_parts (is_item n) (are_units (take (twice k) bytes)) (sym (units_more front (omega arith)) ∙ are) in
    let first : items_in 2 (low ∷ high ∷ bytes) ≡ n ∷ items_in 2 bytes = items_more 2 n (low ∷ high ∷ bytes) (omega arith) (omega arith) refl (item_some n parts.0) in
    let more = ap (λ (l : List ℕ). length l) first in
    let rest = units_in_front k bytes (omega (arith, long)) parts.1 in
    omega (arith, rest, more)
