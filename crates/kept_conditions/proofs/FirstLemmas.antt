-- The first place at which bytes of stores differ.
use Rattle.std.proofs.Common.{◌≡◌, ℕ, ◌+◌, ◌-◌, ◌<◌, ◌≤◌, ◌&&◌, nat_lt, Bool, false, Option, None, Some, List, length, get_or, drop, is_some, sym, ap, ◌∙◌, inl, inr, arith}
use Rattle.std.specs.Prelude.{slice_range}
use Rattle.std.proofs.lemmas.Bool.{cases_lt, and_parts, and_right, le-ltb, lt-ltb, ltb-true}
use Rattle.std.proofs.lemmas.List.{get_or-drop, get_or-take}
use Rattle.kept_conditions.specs.Touching.{has_one}
use Rattle.kept_conditions.specs.code.Invalidation.{IsFirstFrom, NoneWithin, other_at, other_bytes}
use Rattle.kept_conditions.proofs.DifferenceLemmas.{equal_at, equal_behind, none_one}
use Rattle.kept_conditions.proofs.OverlapLemmas.{has_some}

-- ---- the first number that passes a test

-- it is that of each test that the same numbers pass
pub first_alike : (p q : ℕ → Bool) → ((at : ℕ) → p at ≡ q at) → (from : ℕ) (first : Option ℕ) → IsFirstFrom p from first → IsFirstFrom q from first
first_alike p q same from None is = λ at above. sym (same at) ∙ is at above
first_alike p q same from (Some first) is = (is.0, sym (same first) ∙ is.1, λ at above below. sym (same at) ∙ is.2 at above below)

-- it is the first from each number on that is not behind it
abbrev pub NotBehind : ℕ → Option ℕ → Type 0
NotBehind later None = 0 ≤ later
NotBehind later (Some first) = later ≤ first

pub first_later : (p : ℕ → Bool) (from later : ℕ) (first : Option ℕ) → from ≤ later → NotBehind later first → IsFirstFrom p from first → IsFirstFrom p later first
first_later p from later None ordered before is = λ at above. is at (omega (arith, ordered, above))
first_later p from later (Some first) ordered before is = (before, is.1, λ at above below. is.2 at (omega (arith, ordered, above)) below)

-- whether one of so many bytes is among some, by the first from an offset on that is
pub one_from : (bytes : ℕ → ℕ → Bool) (store offset width first : ℕ) → IsFirstFrom (bytes store) offset (Some first) → nat_lt (first - offset) width ≡ has_one bytes store offset width
one_from bytes store offset width first is = elim (cases_lt (first - offset) width) [
  | inl inside ↦ lt-ltb (first - offset) width inside ∙ sym (has_some bytes store width offset first is.0 (omega (arith, inside, is.0)) is.1)
  | inr behind ↦ le-ltb (first - offset) width behind ∙ sym (none_one bytes store width offset (λ at above below. is.2 at above (omega (arith, below, behind, is.0))))
]

pub none_from : (bytes : ℕ → ℕ → Bool) (store offset width : ℕ) → IsFirstFrom (bytes store) offset None → has_one bytes store offset width ≡ false
none_from bytes store offset width is = none_one bytes store width offset (λ at above below. is at above)

-- ---- the first place at which lists differ

-- whether they differ within bounds, by whether there is such a place
pub some_differ : (xs ys : List ℕ) (from to : ℕ) (first : Option ℕ) → IsFirstFrom (λ at. nat_lt at to && other_at xs ys 0 at) from first → is_some first ≡ other_bytes xs ys from (to - from)
some_differ xs ys from to None is =
    sym (none_one (other_at xs ys) 0 (to - from) from (λ at above below. sym (ap (λ b. b && other_at xs ys 0 at) (lt-ltb at to (omega (arith, above, below)))) ∙ is at above))
some_differ xs ys from to (Some first) is =
    let two = and_parts (nat_lt first to) (other_at xs ys 0 first) is.1 in
    let inside : first < to = ltb-true first to two.0 in
    sym (has_some (other_at xs ys) 0 (to - from) from first is.0 (omega (arith, inside, is.0)) two.1)

-- there is none behind their ends
pub differ_inside : (xs ys : List ℕ) → length xs ≡ length ys → (at : ℕ) → nat_lt at (length xs) && other_at xs ys 0 at ≡ other_at xs ys 0 at
differ_inside xs ys size at = elim (cases_lt at (length xs)) [
  | inl inside ↦ ap (λ b. b && other_at xs ys 0 at) (lt-ltb at (length xs) inside)
  | inr behind ↦
      let same : other_at xs ys 0 at ≡ false = equal_behind xs ys at behind (omega (arith, behind, size)) in
      and_right (nat_lt at (length xs)) (other_at xs ys 0 at) same ∙ sym same
]

-- one element more that is the same
pub same_more : (xs ys : List ℕ) (from at : ℕ) → length xs ≡ length ys → at < length xs → get_or xs at 0 ≡ get_or ys at 0 → NoneWithin (other_at xs ys 0) from at → NoneWithin (other_at xs ys 0) from (at + 1)
same_more xs ys from at size inside same none = λ k above below. elim (cases_lt k at) [
  | inl before ↦ none k above before
  | inr behind ↦ let here : at ≡ k = omega (arith, behind, below) in ap (other_at xs ys 0) (sym here) ∙ equal_at xs ys at inside (omega (arith, inside, size)) same
]

range_at : (xs : List ℕ) (from to k : ℕ) → from ≤ k → k < to → get_or (slice_range xs from to) (k - from) 0 ≡ get_or xs k 0
range_at xs from to k above below = get_or-take (to - from) (drop from xs) (k - from) 0 (omega (arith, above, below)) ∙ get_or-drop from xs (k - from) 0 ∙ ap (λ n. get_or xs n 0) (omega (arith, above))

-- a range more that is the same
pub same_range : (xs ys : List ℕ) (from at to : ℕ) → length xs ≡ length ys → to ≤ length xs → slice_range xs at to ≡ slice_range ys at to → NoneWithin (other_at xs ys 0) from at → NoneWithin (other_at xs ys 0) from to
same_range xs ys from at to size inside same none = λ k above below. elim (cases_lt k at) [
  | inl before ↦ none k above before
  | inr behind ↦
      equal_at xs ys k (omega (arith, below, inside)) (omega (arith, below, inside, size))
      (sym (range_at xs at to k behind below) ∙ ap (λ l. get_or l (k - at) 0) same ∙ range_at ys at to k behind below)
]
