-- Where sorted dependencies end, counted from the first byte of one of them.
use Rattle.std.proofs.Common.{◌≡◌, ◌≤◌, ◌<◌, ◌+◌, ◌-◌, ◌^◌, ℕ, List, length, max, inl, inr, arith}
use Rattle.std.proofs.Math.Nat.{le-max_left, le-max_right, max-le}
use Rattle.std.proofs.lemmas.Bool.{cases_lt}
use Rattle.kept_conditions.specs.code.Index.{AreSorted, IsNear, IsSummary, at_place, behind_of, first_of, no_dependency}
use Rattle.kept_conditions.specs.declared.index.Dependency.{Dependency}
use Rattle.kept_conditions.specs.declared.index.Summary.{Summary}

module _ (rs : List Dependency) (sorted : AreSorted rs) (at : ℕ) (inside : at < length rs) where
  -- A number that is near an earlier dependency is not too far behind a later one.
  pub below_later : (i number : ℕ) → i ≤ at → number < first_of (at_place rs i) + 2 ^ 32 → number < first_of (at_place rs at) + 2 ^ 32
  below_later i number before near =
      let rise : first_of (at_place rs i) ≤ first_of (at_place rs at) = sorted i at no_dependency before inside in
      omega (arith, rise, near)

  pub near_greater : (a b : ℕ) → IsNear rs at a → b < first_of (at_place rs at) + 2 ^ 32 → IsNear rs at (max a b)
  near_greater a b near below =
      let left : a ≤ max a b = le-max_left a b in
      let most : max a b ≤ first_of (at_place rs at) + 2 ^ 32 - 1 = max-le (omega (arith, near.below)) (omega (arith, below)) in
      record { above = omega (arith, near.above, left); below = omega (arith, most) }

pub near_own_end : (rs : List Dependency) (at : ℕ) → IsNear rs at (behind_of (at_place rs at))
near_own_end rs at = record { above = omega arith; below = omega arith }

-- Two blocks of one length that follow one another end where the one does that ends later.
pub joined : (rs : List Dependency) (at len max_end other : ℕ) (before : Summary) → len ≤ at → before.len ≡ len → IsSummary rs (at - len) before
    → other ≡ first_of (at_place rs (at - len)) + before.to_end
    → ((j : ℕ) → j ≤ at → at < j + len → behind_of (at_place rs j) ≤ max_end)
    → (j : ℕ) → j ≤ at → at < j + (len + len) → behind_of (at_place rs j) ≤ max max_end other
joined rs at len max_end other before inside same summary is below j low high = elim (cases_lt at (j + len)) [
  | inl late ↦ let end = below j low late in let left : max_end ≤ max max_end other = le-max_left max_end other in omega (arith, end, left)
  | inr early ↦
      let end = summary.below j (omega (arith, early, inside)) (omega (arith, high, inside, same)) in
      let right : other ≤ max max_end other = le-max_right max_end other in
      omega (arith, end, is, right)
]
