-- How far a script was read.
use Rattle.std.specs.Prelude.{◌≡◌, ℕ, false, List}
use Rattle.hii_bytes.specs.Watching.{Pen, Writes}
use Rattle.hii_commands.specs.code.Held.{Held, held_of}
use Rattle.hii_commands.specs.code.Lines.{whole_lines, rest_of}
use Rattle.browser_core.specs.Shown.{Shown}
use Rattle.browser_core.specs.Run.{shown_after_lines, text_of}

-- The lines whose LF has come are carried out, and what stands after the last LF is held.
pub record Stands (start : Shown) (pen : Pen) (bytes : List ℕ) (now : Shown) (line : Held)
    (new : Pen) : Type 0 where
  pub shown : now ≡ shown_after_lines start (whole_lines bytes)
  pub text : Writes pen new (text_of start (whole_lines bytes))
  pub line_is : line ≡ held_of (rest_of bytes)
  pub sound : new.broken ≡ false
