-- Bytes that begin or end no tag and end no attribute (HTML Living Standard, 13.1.2 Elements).
use Rattle.std.specs.Prelude.{ℕ, ◌==◌, ◌||◌, not, Bool, List}
use Rattle.std.specs.List.{list_all}

abbrev pub is_plain : ℕ → Bool
is_plain b = not (b == 60 || b == 62 || b == 34 || b == 39)

abbrev pub are_plain : List ℕ → Bool
are_plain text = list_all is_plain text
