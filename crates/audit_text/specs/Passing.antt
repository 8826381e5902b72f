-- Answers that are passed on before a file is written (own rule).
use Rattle.std.specs.Prelude.{List, ℕ}
use Rattle.hii_bytes.specs.Watching.{Flushes, Pen, Writes}

-- A text was written, and then what the writer held back was passed on.
pub record PassesOn (old new : Pen) (text : List ℕ) : Type 0 where
  pub between : Pen
  pub written : Writes old between text
  pub passed : Flushes between new
