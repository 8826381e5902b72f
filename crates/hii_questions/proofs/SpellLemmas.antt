-- Items that are spelled are read back.
use Rattle.std.proofs.Common.{◌≡◌, ℕ, zero, suc, ◌-◌, ◌*◌, ◌^◌, ◌<◌, ◌≤◌, ltb, List, [], ◌∷◌, ◌++◌, length, take, replicate, get_or, refl, ap, ◌∙◌, arith, inl, inr, append_assoc, length-append}
use Rattle.std.proofs.lemmas.Bool.{cases_Bool, ltb-true, ltb-false, ne_eqb}
use Rattle.std.proofs.lemmas.List.{drop_at, take_at, get_or-replicate, get_or_past, length-replicate}
use Rattle.byteorder.specs.Endian.{little_from, little_bytes}
use Rattle.byteorder.specs.Numbers.{little_number-reads_back, length-bytes_low_first}
use Rattle.hii_values.specs.Items.{items_in, bytes_of_items, spelled, filled}
use Rattle.hii_values.proofs.ItemLemmas.{items_short, items_end, items_more}
use Rattle.hii_values.proofs.ListLemmas.{length_spelled}

zero_at : (k i : ℕ) → ◌≡◌ {A = ℕ} (get_or (replicate k 0) i 0) 0
zero_at k i = elim (cases_Bool (ltb i k)) [
  | inl less ↦ get_or-replicate k i 0 0 (ltb-true i k less)
  | inr past ↦ get_or_past (replicate k 0) i 0 (let h = length-replicate {A = ℕ} k 0 in omega (arith, h, ltb-false i k past))
]

zero_number : (i w k : ℕ) → little_from i w (replicate k 0) ≡ 0
zero_number i zero k = refl
zero_number i (suc w) k = let first = zero_at k i in let rest = zero_number (suc i) w k in omega (arith, first, rest)

no_items : (w k : ℕ) → 0 < w → items_in w (replicate k 0) ≡ []
no_items w k some =
    let sized = length-replicate {A = ℕ} k 0 in
    elim (cases_Bool (ltb k w)) [
      | inl short ↦ items_short w (replicate k 0) (omega (arith, sized, ltb-true k w short))
      | inr long ↦ items_end w (replicate k 0) some (omega (arith, sized, ltb-false k w long)) (zero_number 0 w k)
    ]

-- items are no zeros, and fit their width
abbrev pub AreItems : ℕ → List ℕ → Type 0
AreItems w [] = Unit {0}
AreItems w (n ∷ ns) = (n ≡ 0 → ⊥) × (n < 256 ^ w) × AreItems w ns

pub items_back : (w : ℕ) (items : List ℕ) (k : ℕ) → 0 < w → AreItems w items → items_in w (spelled w items ++ replicate k 0) ≡ items
items_back w [] k some are = no_items w k some
items_back w (n ∷ items) k some are =
    let rest = spelled w items ++ replicate k 0 in
    let split : spelled w (n ∷ items) ++ replicate k 0 ≡ little_bytes w n ++ rest = append_assoc (little_bytes w n) (spelled w items) (replicate k 0) in
    let one = length-bytes_low_first 0 w n in
    let sum = length-append (little_bytes w n) rest in
    let long : w ≤ length (little_bytes w n ++ rest) = omega (arith, one, sum) in
    let is = little_number-reads_back w n rest are.1 in
    ap (items_in w) split
    ∙ items_more w n (little_bytes w n ++ rest) some long is (ne_eqb n 0 are.0)
    ∙ ap (λ (l : List ℕ). n ∷ items_in w l) (drop_at (little_bytes w n) rest w one)
    ∙ ap (λ (l : List ℕ). n ∷ l) (items_back w items k some are.2)

pub bytes_back : (w size : ℕ) (items : List ℕ) → 0 < w → AreItems w items → bytes_of_items w (filled size (spelled w items)) ≡ spelled w items
bytes_back w size items some are =
    let k = size - length (spelled w items) in
    ap (λ (l : List ℕ). take (length l * w) (filled size (spelled w items))) (items_back w items k some are)
    ∙ take_at (spelled w items) (replicate k 0) (length items * w) (length_spelled w items)
