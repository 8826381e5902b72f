-- How far a text is written.
use Rattle.std.specs.Prelude.{◌≡◌, ℕ, List, ◌++◌}
use Rattle.hii_bytes.specs.declared.watched.Watched.{Watched}
use Rattle.hii_bytes.specs.Watching.{Pen, Writes}

-- how many bytes the writes since the last `restart` took, at most 2^64 - 1
abbrev pub taken_of : {T : Type 0} → Watched T → ℕ
taken_of w = w.taken

-- a text of which the front is written, and the rest still stands to be written
pub record Stands (old new : Pen) (text rest : List ℕ) : Type 0 where
  pub front : List ℕ
  pub parts : text ≡ front ++ rest
  pub written : Writes old new front
