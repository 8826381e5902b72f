-- Lines that are gathered before they are written.
use Rattle.std.specs.Prelude.{◌≡◌, List, ℕ, ◌++◌}
use Rattle.hii_bytes.specs.Watching.{Pen, Writes}
use Rattle.form_page.specs.declared.line.Line.{Line}

-- a text of which the front is written, and the rest is held
pub record Gathers (start now : Pen) (line : Line) (text : List ℕ) : Type 0 where
  pub front : List ℕ
  pub parts : text ≡ front ++ line.held.items
  pub written : Writes start now front

-- Bytes were added to what was gathered.
abbrev pub Adds : Pen → Line → Pen → Line → List ℕ → Type 0
Adds old line new longer bytes =
    (start : Pen) (text : List ℕ) → Gathers start old line text
    → Gathers start new longer (text ++ bytes)
