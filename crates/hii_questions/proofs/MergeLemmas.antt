-- Two lists of steps as one.
use Rattle.std.proofs.Common.{◌≡◌, ◌⊎◌, ℕ, zero, suc, ◌+◌, ◌≤◌, ◌<◌, ◌==◌, min, nat_le, false, Option, Some, None, List, [], ◌∷◌, length, refl, sym, ap, subst, ◌∙◌, arith, inl, inr}
use Rattle.std.proofs.lemmas.Bool.{cases_Bool, cases_lt, eqb-true, eq-eqb, leb-true, le-leb, eqb-false}
use Rattle.hii_questions.specs.code.Merging.{passed, behind, next_from, at_most}
use Rattle.hii_questions.specs.code.Steps.{StepsRise, value_at}
use Rattle.hii_questions.specs.declared.merging.Step.{Step}

-- A test that fails for a number finds it behind.
pub not_up : (a b : ℕ) → nat_le a b ≡ false → b < a
not_up a b e = elim (cases_lt b a) [
  | inl less ↦ less
  | inr up ↦ let up' = le-leb a b up in absurd (cc)
]

-- ---- the next byte

-- The steps that are left begin at a byte, or behind it.
abbrev AtLeast : ℕ → List Step → Type 0
AtLeast from [] = Unit {0}
AtLeast from (s ∷ ss) = from ≤ s.from

both_behind : (ss ts : List Step) (from : ℕ) → next_from ss ts ≡ Some from → AtLeast from ss × AtLeast from ts
both_behind [] [] from e = absurd (cc)
both_behind (s ∷ ss) [] from e = let same : s.from ≡ from = cc in (omega (arith, same), tt)
both_behind [] (t ∷ ts) from e = let same : t.from ≡ from = cc in (tt, omega (arith, same))
both_behind (s ∷ ss) (t ∷ ts) from e = let same : min s.from t.from ≡ from = cc in (omega (arith, same), omega (arith, same))

not_longer : (from : ℕ) (ss : List Step) → length (behind from ss) ≤ length ss
not_longer from [] = omega arith
not_longer from (s ∷ ss) = elim (cases_Bool (s.from == from)) [
  | inl here ↦ rw here (omega arith)
  | inr other ↦ rw other (omega arith)
]

one_less : (from : ℕ) (s : Step) (ss : List Step) → s.from ≡ from → length (behind from (s ∷ ss)) < length (s ∷ ss)
one_less from s ss same = rw (eq-eqb s.from from same) (omega arith)

shorter : (ss ts : List Step) (from : ℕ) → next_from ss ts ≡ Some from → length (behind from ss) + length (behind from ts) < length ss + length ts
shorter [] [] from e = absurd (cc)
shorter (s ∷ ss) [] from e = let same : s.from ≡ from = cc in omega (arith, one_less from s ss same)
shorter [] (t ∷ ts) from e = let same : t.from ≡ from = cc in omega (arith, one_less from t ts same)
shorter (s ∷ ss) (t ∷ ts) from e =
    let same : min s.from t.from ≡ from = cc in
    elim (cases_lt s.from t.from) [
      | inl less ↦ let here : s.from ≡ from = omega (arith, same, less) in omega (arith, one_less from s ss here, not_longer from (t ∷ ts))
      | inr up ↦ let here : t.from ≡ from = omega (arith, same, up) in omega (arith, one_less from t ts here, not_longer from (s ∷ ss))
    ]

-- ---- steps

abbrev step_of : ℕ → ℕ → List Step → ℕ → List Step → Step
step_of from a ss b ts = record { from = from; first = min (passed from a ss) (passed from b ts) }

abbrev rest_of : ℕ → ℕ → ℕ → List Step → ℕ → List Step → List Step
rest_of n from a ss b ts = at_most n (passed from a ss) (behind from ss) (passed from b ts) (behind from ts)

over : (n a b : ℕ) (ss ts : List Step) → next_from ss ts ≡ None → at_most n a ss b ts ≡ []
over zero a b ss ts e = refl
over (suc n) a b ss ts e = rw e refl

goes_on : (n a b : ℕ) (ss ts : List Step) (from : ℕ) → next_from ss ts ≡ Some from → at_most (suc n) a ss b ts ≡ step_of from a ss b ts ∷ rest_of n from a ss b ts
goes_on n a b ss ts from e = rw e refl

-- either nothing is left, or a step
cases_next : (o : Option ℕ) → (o ≡ None) ⊎ ((from : ℕ) × (o ≡ Some from))
cases_next None = inl refl
cases_next (Some from) = inr (from, refl)

-- As many steps as there are suffice.
enough : (n m a b : ℕ) (ss ts : List Step) → length ss + length ts ≤ n → length ss + length ts ≤ m → at_most n a ss b ts ≡ at_most m a ss b ts
enough zero m a b ss ts long long' = elim (cases_next (next_from ss ts)) [
  | inl none ↦ over zero a b ss ts none ∙ sym (over m a b ss ts none)
  | inr some ↦ absurd (omega (arith, shorter ss ts some.0 some.1, long))
]
enough (suc n) zero a b ss ts long long' = elim (cases_next (next_from ss ts)) [
  | inl none ↦ over (suc n) a b ss ts none
  | inr some ↦ absurd (omega (arith, shorter ss ts some.0 some.1, long'))
]
enough (suc n) (suc m) a b ss ts long long' = elim (cases_next (next_from ss ts)) [
  | inl none ↦ over (suc n) a b ss ts none ∙ sym (over (suc m) a b ss ts none)
  | inr some ↦
      let from = some.0 in
      let less = shorter ss ts from some.1 in
      goes_on n a b ss ts from some.1
      ∙ ap (λ l. step_of from a ss b ts ∷ l) (enough n m (passed from a ss) (passed from b ts) (behind from ss) (behind from ts) (omega (arith, less, long)) (omega (arith, less, long')))
      ∙ sym (goes_on m a b ss ts from some.1)
]

-- the steps of two lists, and those behind the first
abbrev all_of : ℕ → List Step → ℕ → List Step → List Step
all_of a ss b ts = at_most (length ss + length ts) a ss b ts

pub one_passed : (a b : ℕ) (ss ts : List Step) (from : ℕ) → next_from ss ts ≡ Some from
    → all_of a ss b ts ≡ step_of from a ss b ts ∷ all_of (passed from a ss) (behind from ss) (passed from b ts) (behind from ts)
one_passed a b ss ts from e =
    let less = shorter ss ts from e in
    enough (length ss + length ts) (suc (length ss + length ts)) a b ss ts (omega arith) (omega arith) ∙ goes_on (length ss + length ts) a b ss ts from e
    ∙ ap (λ l. step_of from a ss b ts ∷ l) (enough (length ss + length ts) (length (behind from ss) + length (behind from ts)) (passed from a ss) (passed from b ts) (behind from ss) (behind from ts) (omega (arith, less)) (omega arith))

-- ---- what the steps tell

before_all : (at a : ℕ) (from : ℕ) (ss : List Step) → AtLeast from ss → at < from → value_at a ss at ≡ a
before_all at a from [] least less = refl
before_all at a from (s ∷ ss) least less = elim (cases_Bool (nat_le s.from at)) [
  | inl up ↦ let up' = leb-true s.from at up in absurd (omega (arith, up', least, less))
  | inr down ↦ rw down refl
]

at_passed : (at a from : ℕ) (ss : List Step) → from ≤ at → value_at (passed from a ss) (behind from ss) at ≡ value_at a ss at
at_passed at a from [] up = refl
at_passed at a from (s ∷ ss) up = elim (cases_Bool (s.from == from)) [
  | inl here ↦ let same = eqb-true s.from from here in rw (here, le-leb s.from at (omega (arith, same, up))) refl
  | inr other ↦ rw other refl
]

none_there : (ss ts : List Step) → next_from ss ts ≡ None → (ss ≡ []) × (ts ≡ [])
none_there [] [] e = (refl, refl)
none_there (s ∷ ss) [] e = absurd (cc)
none_there [] (t ∷ ts) e = absurd (cc)
none_there (s ∷ ss) (t ∷ ts) e = absurd (cc)

none_told : (n a b : ℕ) (ss ts : List Step) (at : ℕ) → next_from ss ts ≡ None → value_at (min a b) (at_most n a ss b ts) at ≡ min (value_at a ss at) (value_at b ts at)
none_told n a b ss ts at none =
    let are = none_there ss ts none in
    ap (λ l. value_at (min a b) l at) (over n a b ss ts none)
    ∙ ap (λ l. min (value_at a l at) b) (sym are.0) ∙ ap (λ l. min (value_at a ss at) (value_at b l at)) (sym are.1)

pub least_told : (n a b : ℕ) (ss ts : List Step) (at : ℕ) → length ss + length ts ≤ n → value_at (min a b) (at_most n a ss b ts) at ≡ min (value_at a ss at) (value_at b ts at)
least_told zero a b ss ts at long = elim (cases_next (next_from ss ts)) [
  | inl none ↦ none_told zero a b ss ts at none
  | inr some ↦ absurd (omega (arith, shorter ss ts some.0 some.1, long))
]
least_told (suc n) a b ss ts at long = elim (cases_next (next_from ss ts)) [
  | inl none ↦ none_told (suc n) a b ss ts at none
  | inr some ↦
      let from = some.0 in
      let less = shorter ss ts from some.1 in
      let least = both_behind ss ts from some.1 in
      let opened = ap (λ l. value_at (min a b) l at) (goes_on n a b ss ts from some.1) in
      elim (cases_Bool (nat_le from at)) [
        | inl up ↦
            let up' = leb-true from at up in
            opened ∙ rw up (least_told n (passed from a ss) (passed from b ts) (behind from ss) (behind from ts) at (omega (arith, less, long)))
            ∙ ap (λ (v : ℕ). min v (value_at (passed from b ts) (behind from ts) at)) (at_passed at a from ss up') ∙ ap (λ (v : ℕ). min (value_at a ss at) v) (at_passed at b from ts up')
        | inr down ↦
            let down' = not_up from at down in
            opened ∙ rw down refl ∙ ap (λ (v : ℕ). min v b) (sym (before_all at a from ss least.0 down')) ∙ ap (λ (v : ℕ). min (value_at a ss at) v) (sym (before_all at b from ts least.1 down'))
      ]
]

-- ---- the steps rise

rest_rises : (from lo : ℕ) (ss : List Step) → StepsRise lo ss → AtLeast from ss → StepsRise (from + 1) (behind from ss)
rest_rises from lo [] rise least = tt
rest_rises from lo (s ∷ ss) rise least = elim (cases_Bool (s.from == from)) [
  | inl here ↦ rw here (subst (λ (k : ℕ). StepsRise (k + 1) ss) (eqb-true s.from from here) rise.1)
  | inr other ↦ rw other (let apart = eqb-false s.from from other in (omega (arith, apart, least), rise.1))
]

low : (lo from : ℕ) (ss ts : List Step) → next_from ss ts ≡ Some from → StepsRise lo ss → StepsRise lo ts → lo ≤ from
low lo from [] [] e left right = absurd (cc)
low lo from (s ∷ ss) [] e left right = let same : s.from ≡ from = cc in omega (arith, same, left.0)
low lo from [] (t ∷ ts) e left right = let same : t.from ≡ from = cc in omega (arith, same, right.0)
low lo from (s ∷ ss) (t ∷ ts) e left right = let same : min s.from t.from ≡ from = cc in omega (arith, same, left.0, right.0)

pub all_rise : (n lo a b : ℕ) (ss ts : List Step) → StepsRise lo ss → StepsRise lo ts → StepsRise lo (at_most n a ss b ts)
all_rise zero lo a b ss ts left right = tt
all_rise (suc n) lo a b ss ts left right = elim (cases_next (next_from ss ts)) [
  | inl none ↦ rw none tt
  | inr some ↦
      let from = some.0 in
      let least = both_behind ss ts from some.1 in
      rw some.1 (low lo from ss ts some.1 left right, all_rise n (from + 1) (passed from a ss) (passed from b ts) (behind from ss) (behind from ts) (rest_rises from lo ss left least.0) (rest_rises from lo ts right least.1))
]
