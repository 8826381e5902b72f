use Rattle.std.proofs.Common.{◌≡◌, List, ℕ, take, drop, length, sym, ap, subst, ◌∙◌}
use Rattle.std.specs.List.{refill}
use Rattle.std.specs.List.Sorted.{IsNonDecreasing, IsPermutation}
use Rattle.std.proofs.lemmas.List.{take_at}
use Rattle.std.proofs.lemmas.List.Sorted.{IsNonDecreasingBy-from_sort}
use Rattle.hii_values.specs.code.ItemsLeft.{items_left}
use Rattle.hii_values.proofs.met_values.rising_values.Goals as goal

-- what is written over all of some numbers
refilled : (xs ys : List ℕ) → length ys ≡ length xs → ys ≡ refill (length xs) xs ys
refilled xs ys sized = sym (take_at ys (drop (length ys) xs) (length xs) sized)

pub returns-clause-rising : goal.returns-clause-rising
returns-clause-rising c =
    let xs = c.first_values-values.result.items in
    let ys = c.sort_unstable.new.self in
    let long : length ys ≡ length xs = c.sort_unstable.ensures.len ∙ ap (length {A = ℕ}) c.as_mut_slice.ensures.value in
    subst IsNonDecreasing (refilled xs ys long) (IsNonDecreasingBy-from_sort (λ x. x) ys c.sort_unstable.ensures.sorted)

pub returns-clause-same : goal.returns-clause-same
returns-clause-same c =
    let xs = c.first_values-values.result.items in
    let ys = c.sort_unstable.new.self in
    let long : length ys ≡ length xs = c.sort_unstable.ensures.len ∙ ap (length {A = ℕ}) c.as_mut_slice.ensures.value in
    let moved = subst (λ (l : List ℕ). IsPermutation l ys) (c.as_mut_slice.ensures.value ∙ c.first_values-values.ensures) c.sort_unstable.ensures.permutation in
    subst (IsPermutation (take 255 (items_left c.args.items))) (refilled xs ys long) moved
