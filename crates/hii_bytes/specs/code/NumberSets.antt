-- Sets of numbers of 16 bits.
use Rattle.std.specs.Prelude.{ℕ, Bool, false, List, get_or}

-- whether a number is in the set that a table of bools is
abbrev pub has_number : List Bool → ℕ → Bool
has_number has number = get_or has number false
