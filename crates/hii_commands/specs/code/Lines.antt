-- The parts of what a script is cut into.
use Rattle.std.specs.Prelude.{ℕ, ◌==◌, Bool, List, [], ◌∷◌, ◌++◌}
use Rattle.browser_rules.specs.Script.{cut_lines}

-- whether the byte ends a line
abbrev pub ends_line : ℕ → Bool
ends_line b = b == 10

abbrev pub whole_lines : List ℕ → List (List ℕ)
whole_lines bytes = (cut_lines bytes).0

abbrev pub rest_of : List ℕ → List ℕ
rest_of bytes = (cut_lines bytes).1

-- the bytes as a line, where there are any
abbrev pub last_line : List ℕ → List (List ℕ)
last_line [] = []
last_line (b ∷ bytes) = (b ∷ bytes) ∷ []

-- all lines of a script: those joined by LF, the last dropped where it is empty
abbrev pub lines_of : List ℕ → List (List ℕ)
lines_of bytes = whole_lines bytes ++ last_line (rest_of bytes)
