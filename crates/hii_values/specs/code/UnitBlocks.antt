-- Blocks of units.
use Rattle.std.specs.Prelude.{ℕ, Bool, List}
use Rattle.std.specs.List.{list_all}
use Rattle.hii_values.specs.Items.{is_item, numbers_in}

-- none of the units of two bytes is 0
abbrev pub are_units : List ℕ → Bool
are_units bytes = list_all is_item (numbers_in 2 bytes)
