-- The places of the guards that were removed rise, and are found by halving.
use Rattle.std.proofs.Common.{◌≡◌, ℕ, zero, suc, ◌+◌, ◌≤◌, ◌<◌, Bool, true, false, eqb, Result, Ok, Err, List, [], ◌∷◌, length, get_or, map, refl, sym, ap, inl, inr, arith}
use Rattle.std.specs.Prelude.{◌&&◌, filter, is_ok}
use Rattle.std.specs.List.Sorted.{IsBinarySearchResult}
use Rattle.std.specs.Ordering.{nat_cmp}
use Rattle.std.proofs.lemmas.Bool.{cases_Bool, cases_lt, eqb-true, eq-eqb, ne_eqb}
use Rattle.std.proofs.lemmas.List.Sorted.{searched}
use Rattle.hii_bytes.specs.code.FirstFaults.{Rise}
use Rattle.ifr_opcodes.specs.declared.codes.TheConstants.{DISABLE_IF}
use Rattle.ifr_opcodes.specs.Forest.{Node}
use Rattle.ifr_opcodes.specs.Opcode.{number}
use Rattle.ifr_opcodes.specs.Rows.{is_among}
use Rattle.ifr_nodes.specs.Guards.{is_guard}

-- numbers that rise
abbrev pub Ascend : ℕ → List ℕ → Type 0
Ascend low xs = Rise (λ (x : ℕ). x) low xs

lower : (low high : ℕ) (xs : List ℕ) → low ≤ high → Ascend high xs → Ascend low xs
lower low high [] le r = tt
lower low high (x ∷ xs) le r = let above : high ≤ x = r.0 in (omega arith, r.1)

-- so do the places of some of the nodes
pub places_ascend : (which : Node → Bool) (low : ℕ) (ns : List Node) → Rise (λ (n : Node). n.place) low ns → Ascend low (map (λ (n : Node). n.place) (filter which ns))
places_ascend which low [] r = tt
places_ascend which low (n ∷ ns) r = elim (cases_Bool (which n)) [
  | inl is ↦ rw is (r.0, places_ascend which (n.place + 1) ns r.1)
  | inr other ↦
      let first : low ≤ n.place = r.0 in
      rw other (lower low (n.place + 1) (map (λ (m : Node). m.place) (filter which ns)) (omega arith) (places_ascend which (n.place + 1) ns r.1))
]

pub from_zero : (low : ℕ) (xs : List ℕ) → Ascend low xs → Ascend 0 xs
from_zero low xs r = lower 0 low xs (omega arith) r

above : (low : ℕ) (xs : List ℕ) (i : ℕ) → Ascend low xs → i < length xs → low ≤ get_or xs i 0
above low [] i r lt = absurd (omega arith)
above low (x ∷ xs) zero r lt = r.0
above low (x ∷ xs) (suc i) r lt =
    let first : low ≤ x = r.0 in
    let later = above (x + 1) xs i r.1 (omega arith) in
    omega arith

ordered : (low : ℕ) (xs : List ℕ) → Ascend low xs → (i j : ℕ) → i ≤ j → j < length xs → get_or xs i 0 ≤ get_or xs j 0
ordered low [] r i j le lt = absurd (omega arith)
ordered low (x ∷ xs) r zero zero le lt = omega arith
ordered low (x ∷ xs) r zero (suc j) le lt = let later = above (x + 1) xs j r.1 (omega arith) in omega arith
ordered low (x ∷ xs) r (suc i) zero le lt = absurd (omega arith)
ordered low (x ∷ xs) r (suc i) (suc j) le lt = ordered (x + 1) xs r.1 i j (omega arith) (omega arith)

there : (xs : List ℕ) (x i : ℕ) → i < length xs → get_or xs i 0 ≡ x → is_among x xs ≡ true
there [] x i lt e = absurd (omega arith)
there (y ∷ xs) x zero lt e = rw (eq-eqb y x e) refl
there (y ∷ xs) x (suc i) lt e = elim (cases_Bool (eqb y x)) [
  | inl is ↦ rw is refl
  | inr other ↦ rw other (there xs x i (omega arith) e)
]

nowhere : (xs : List ℕ) (x : ℕ) → ((i : ℕ) → i < length xs → get_or xs i 0 ≡ x → ⊥) → is_among x xs ≡ false
nowhere [] x none = refl
nowhere (y ∷ xs) x none = rw (ne_eqb y x (none 0 (omega arith))) (nowhere xs x (λ i lt. none (suc i) (omega arith)))

-- what a search answers
pub is_there : (xs : List ℕ) (x : ℕ) (r : Result ℕ ℕ) → Ascend 0 xs → IsBinarySearchResult (λ y. nat_cmp y x) xs r → is_ok r ≡ is_among x xs
is_there xs x (Ok i) up found = let at = searched xs x (Ok i) found (ordered 0 xs up) in sym (there xs x i at.0 at.1)
is_there xs x (Err i) up found =
    let around = searched xs x (Err i) found (ordered 0 xs up) in
    sym (nowhere xs x (λ k lt e. elim (cases_lt k i) [
      | inl before ↦ let less = around.1 k before in absurd (omega arith)
      | inr from ↦ let more = around.2 k from lt in absurd (omega arith)
    ]))

-- a DISABLE_IF is a guard
pub of_guards : (met : Node → Bool) (ns : List Node) → filter (λ n. eqb (number n.op) DISABLE_IF && met n) (filter (λ n. is_guard (number n.op)) ns) ≡ filter (λ n. eqb (number n.op) DISABLE_IF && met n) ns
of_guards met [] = refl
of_guards met (n ∷ ns) = elim (cases_Bool (eqb (number n.op) DISABLE_IF)) [
  | inl is ↦
      let guards : is_guard (number n.op) ≡ true = ap is_guard (eqb-true (number n.op) DISABLE_IF is) in
      elim (cases_Bool (met n)) [
        | inl holds ↦ rw (guards, is, holds) (ap (λ (l : List Node). n ∷ l) (of_guards met ns))
        | inr not ↦ rw (guards, is, not) (of_guards met ns)
      ]
  | inr other ↦ elim (cases_Bool (is_guard (number n.op))) [
    | inl guards ↦ rw (guards, other) (of_guards met ns)
    | inr none ↦ rw (none, other) (of_guards met ns)
  ]
]
