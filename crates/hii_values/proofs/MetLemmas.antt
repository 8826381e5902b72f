-- Values that were met.
use Rattle.std.proofs.Common.{◌≡◌, ◌==◌, ℕ, zero, suc, ◌<◌, ◌≤◌, Bool, true, false, ◌&&◌, ◌||◌, ltb, cond, Some, None, List, [], ◌∷◌, ◌++◌, length, take, get_or, set, replicate, sym, ap, ◌∙◌, arith, refl, inl, inr}
use Rattle.std.specs.List.{list_any}
use Rattle.std.specs.List.Sorted.{IsNonDecreasing, IsPartitionPoint}
use Rattle.std.specs.Prelude.{⊤}
use Rattle.std.proofs.lemmas.Bool.{true≢false, cases_Bool, or_left, or_right, and_right, ne_eqb, eqb-true, eq-eqb, ltb-true, ltb-false}
use Rattle.std.proofs.lemmas.List.{get_or-set_same, get_or-set_other, take_all}
use Rattle.std.proofs.lemmas.List.Folds.{Any-from_list_any, list_any_at, list_any-append}
use Rattle.hii_values.specs.code.MetValues.{first_from}

-- none of some numbers is greater than one behind it
abbrev pub Rises : List ℕ → Type 0
Rises [] = ⊤
Rises (x ∷ xs) = ((y : ℕ) → list_any (λ other. other == y) xs ≡ true → x ≤ y) × Rises xs

pub rises : (xs : List ℕ) → IsNonDecreasing xs → Rises xs
rises [] up = tt
rises (x ∷ xs) up = (
  λ y has.
      let found = Any-from_list_any (λ other. other == y) xs has in
      let is : found.1 ≡ y = eqb-true found.1 y found.4 in
      let at = up 0 (suc found.0) found.1 (omega arith) (omega (arith, found.2)) in
      omega (arith, at, is, found.3),
  rises xs (λ i j d le lt. up (suc i) (suc j) d (omega arith) (omega arith)),
)

-- A number that is there is the first that is not less than it.
pub first_is : (y : ℕ) (xs : List ℕ) → Rises xs → list_any (λ x. x == y) xs ≡ true → (first_from y xs < length xs) × ((d : ℕ) → get_or xs (first_from y xs) d ≡ y)
first_is y [] up has = absurd (true≢false (sym has))
first_is y (x ∷ xs) up has = elim (cases_Bool (ltb x y)) [
  | inl less ↦
      let below = ltb-true x y less in
      let other = ne_eqb x y (λ e. omega (arith, e, below)) in
      let rest = first_is y xs up.1 (sym (ap (λ b. b || list_any (λ z. z == y) xs) other) ∙ has) in
      rw less (omega (arith, rest.0), rest.1)
  | inr not_less ↦
      let above = ltb-false x y not_less in
      rw not_less (
        omega arith,
        λ d. elim (cases_Bool (x == y)) [
          | inl same ↦ eqb-true x y same
          | inr other ↦
              let behind = up.0 y (sym (ap (λ b. b || list_any (λ z. z == y) xs) other) ∙ has) in
              omega (arith, above, behind)
        ],
      )
]

-- The point that parts lesser numbers from others stands before the first of these.
pub point_is : (y i : ℕ) (xs : List ℕ) → IsPartitionPoint (λ x. ltb x y ≡ true) (λ x. ltb x y ≡ false) xs i → i ≤ length xs → first_from y xs ≡ i
point_is y i [] parts within = omega (arith, within)
point_is y zero (x ∷ xs) parts within = rw (parts.1 0 x (omega arith) (omega arith)) refl
point_is y (suc i) (x ∷ xs) parts within =
    rw (parts.0 0 x (omega arith) (omega arith))
    (ap suc (point_is y i xs (λ k d from to. parts.0 (suc k) d (omega arith) (omega arith), λ k d from to. parts.1 (suc k) d (omega arith) (omega arith)) (omega (arith, within))))

or_false : (b : Bool) → (b || false) ≡ b
or_false true = refl
or_false false = refl

-- A value is met: it was met before, or it is this one.
pub met_more : (value : ℕ) (values : List ℕ) (met : List Bool) (y : ℕ) → Rises values → list_any (λ x. x == value) values ≡ true → first_from value values < length met
    → (list_any (λ x. x == y) values && get_or (set met (first_from value values) true) (first_from y values) false)
    ≡ ((list_any (λ x. x == y) values && get_or met (first_from y values) false) || (list_any (λ x. x == y) values && (value == y)))
met_more value values met y up sought within = elim (cases_Bool (list_any (λ x. x == y) values)) [
  | inr none ↦ rw none refl
  | inl some ↦ elim (cases_Bool (value == y)) [
    | inl same ↦
        let is = sym (eqb-true value y same) in
        let here : get_or (set met (first_from value values) true) (first_from y values) false ≡ true =
        ap (λ v. get_or (set met (first_from value values) true) (first_from v values) false) is ∙ get_or-set_same met (first_from value values) true false within in
        rw (some, same, here) (sym (or_right (true && get_or met (first_from y values) false) true refl))
    | inr other ↦
        let apart : first_from y values ≡ first_from value values → ⊥ = λ e.
        let a = (first_is y values up some).1 0 in
        let b = (first_is value values up sought).1 0 in
        let is : y ≡ value = sym a ∙ ap (λ i. get_or values i 0) e ∙ b in
        true≢false (sym (eq-eqb value y (sym is)) ∙ other) in
        let there = get_or-set_other met (first_from value values) (first_from y values) true false apart in
        rw (some, other, there) (sym (or_false (true && get_or met (first_from y values) false)))
  ]
]

pub found_at : (y i : ℕ) (xs : List ℕ) → IsPartitionPoint (λ x. ltb x y ≡ true) (λ x. ltb x y ≡ false) xs i → i < length xs → get_or xs i 0 ≡ y
    → Some i ≡ cond (list_any (λ x. x == y) xs) (Some (first_from y xs)) None
found_at y i xs point within is =
    let there = list_any_at (λ x. x == y) xs i 0 within (eq-eqb (get_or xs i 0) y is) in
    rw there (ap Some (sym (point_is y i xs point (omega (arith, within)))))

pub not_there : (y i : ℕ) (xs : List ℕ) → IsNonDecreasing xs → IsPartitionPoint (λ x. ltb x y ≡ true) (λ x. ltb x y ≡ false) xs i → i ≤ length xs → (i < length xs → get_or xs i 0 ≡ y → ⊥)
    → None ≡ cond (list_any (λ x. x == y) xs) (Some (first_from y xs)) None
not_there y i xs up point within other = elim (cases_Bool (list_any (λ x. x == y) xs)) [
  | inr none ↦ rw none refl
  | inl some ↦
      let is = first_is y xs (rises xs up) some in
      let same = point_is y i xs point within in
      absurd (other (omega (arith, is.0, same)) (ap (λ k. get_or xs k 0) (sym same) ∙ is.1 0))
]

-- Nothing was met at first.
none_at : (n k : ℕ) → get_or (replicate n false) k false ≡ false
none_at zero k = refl
none_at (suc n) zero = refl
none_at (suc n) (suc k) = none_at n k

pub none_met : (sought : Bool) (n k : ℕ) → (sought && get_or (replicate n false) k false) ≡ false
none_met false n k = refl
none_met true n k = none_at n k

-- What stands between others is among all.
among_all : (before : List ℕ) (item : ℕ) (rest : List ℕ) → list_any (λ x. x == item) (before ++ item ∷ rest) ≡ true
among_all before item rest =
    list_any-append (λ x. x == item) before (item ∷ rest)
    ∙ or_right (list_any (λ x. x == item) before) ((item == item) || list_any (λ x. x == item) rest) (or_left (item == item) (list_any (λ x. x == item) rest) (eq-eqb item item refl))

pub among_front : (item : ℕ) (before rest all : List ℕ) → before ++ item ∷ rest ≡ all → length all ≤ 255 → list_any (λ x. x == item) (take 255 all) ≡ true
among_front item before rest all whole few =
    ap (list_any (λ x. x == item)) (take_all 255 all few ∙ sym whole) ∙ among_all before item rest

-- One more element was met.
pub before_met : (item : ℕ) (before : List ℕ) (sought : Bool) (v : ℕ) → (item ≡ v → sought ≡ true)
    → (list_any (λ x. x == v) before || (sought && (item == v))) ≡ list_any (λ x. x == v) (before ++ item ∷ [])
before_met item before sought v there =
    sym (list_any-append (λ x. x == v) before (item ∷ []) ∙ ap (λ b. list_any (λ x. x == v) before || b) (elim (cases_Bool (item == v)) [
      | inl same ↦ rw (same, there (eqb-true item v same)) refl
      | inr other ↦ rw (other, and_right sought false refl) refl
    ]))
