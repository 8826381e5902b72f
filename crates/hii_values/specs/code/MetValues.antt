-- Which of some values were met.
use Rattle.std.specs.Prelude.{ℕ, suc, Bool, false, ◌==◌, ◌&&◌, nat_lt, if◌then◌else◌, List, [], ◌∷◌, slice_index_or}
use Rattle.std.specs.List.{list_any}
use Rattle.hii_values.specs.declared.met_values.MetValues.{MetValues}

-- how many numbers stand before the first that is not less than another
abbrev pub first_from : ℕ → List ℕ → ℕ
first_from y [] = 0
first_from y (x ∷ xs) = if nat_lt x y then suc (first_from y xs) else 0

-- whether a value is one of those that are sought
abbrev pub is_sought : MetValues → ℕ → Bool
is_sought s y = list_any (λ x. x == y) s.values.items

-- whether it was met
abbrev pub is_met : MetValues → ℕ → Bool
is_met s y = is_sought s y && slice_index_or s.met (first_from y s.values.items) false
