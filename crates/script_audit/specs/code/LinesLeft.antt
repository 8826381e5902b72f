-- The lines of a text that are left.
use Rattle.std.specs.Prelude.{ℕ, ◌+◌, Option, Some, None, List, [], ◌∷◌, filter, length}
use Rattle.std.specs.Borrow.{Bor}
use Rattle.script_audit.specs.Script.{Line, is_run, lines_from}

-- a line, if it is run
abbrev pub line_run : ℕ → List ℕ → List Line
line_run number bytes = filter is_run (record { number = number; bytes = bytes } ∷ [])

-- the lines of what is left of a text
abbrev pub lines_left : ℕ → Option (Bor (List ℕ)) → List Line
lines_left number None = []
lines_left number (Some rest) = lines_from number rest.now

-- more than there are lines in it
abbrev pub room_of : Option (Bor (List ℕ)) → ℕ
room_of None = 0
room_of (Some rest) = length rest.now + 1
