-- What is written of a text where its writing ends before the text does (own rule).
use Rattle.std.specs.Prelude.{◌≡◌, ℕ, List, ◌++◌}
use Rattle.hii_bytes.specs.Watching.{Pen, Writes}

-- The beginning of a text was written, and nothing else.
pub record Begins (old new : Pen) (text : List ℕ) : Type 0 where
  pub front : List ℕ
  pub rest : List ℕ
  pub parts : text ≡ front ++ rest
  pub written : Writes old new front
