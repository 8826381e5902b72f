-- Marks in front of texts.
use Rattle.std.specs.Prelude.{ℕ, Option, Some, None, if◌then◌else◌, bytes_eq, List, length, take, drop}

-- what stands behind a mark
abbrev pub behind_mark : List ℕ → List ℕ → Option (List ℕ)
behind_mark mark text =
    if bytes_eq (take (length mark) text) mark then Some (drop (length mark) text) else None
