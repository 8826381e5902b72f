-- The parts of a configuration text between its `&` (UEFI 2.8, 34.2.1 String Grammar).
use Rattle.std.specs.Prelude.{ℕ, ◌==◌, Bool, List}
use Rattle.std.specs.List.{slice_split}

-- whether the byte is an `&`
abbrev pub is_between : ℕ → Bool
is_between b = b == 38

-- the parts of a text between its `&`
abbrev pub text_parts : List ℕ → List (List ℕ)
text_parts text = slice_split is_between text
