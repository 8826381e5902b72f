-- The LOCKED that decides, found by place.
use Rattle.std.specs.Prelude.{◌≡◌, ℕ, Option, None, List, [], ◌∷◌, option_map}
use Rattle.std.specs.Option.{option_or}
use Rattle.ifr_opcodes.specs.Forest.{Node}
use Rattle.ifr_nodes.specs.Locks.{locked_in, first_of_nodes, first_lock}

-- the place of the LOCKED that decides
abbrev pub lock_place : List Node → Node → Option ℕ
lock_place ns n = option_map (λ l. l.place) (first_lock ns n)

-- the place of the first LOCKED directly in the scope of what stands at a place
abbrev pub first_place : List Node → ℕ → Option ℕ
first_place ns scope = option_map (λ n. n.place) (first_of_nodes (locked_in ns scope))

-- what is found at the first of these places at which something is
abbrev pub first_some : (ℕ → Option ℕ) → List ℕ → Option ℕ
first_some found [] = None
first_some found (place ∷ places) = option_or (found place) (first_some found places)

-- What was found so far, else the first of those that are left, is the first of all.
abbrev pub Finds : (ℕ → Option ℕ) → (ℕ → Option ℕ) → List Node → Type 0
Finds all found left = (scope : ℕ) → option_or (found scope) (first_place left scope) ≡ all scope
