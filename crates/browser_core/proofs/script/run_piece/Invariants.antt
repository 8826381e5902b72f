use Rattle.std.proofs.Common.{◌≡◌, [], ◌++◌, List, ℕ, length}
use Rattle.hii_bytes.specs.Watching.{Pen, pen_of}
use Rattle.hii_commands.specs.code.Lines.{rest_of}
use Rattle.browser_core.specs.Shown.{Shown}
use Rattle.browser_core.specs.code.Reading.{Stands}
use Rattle.browser_core.proofs.script.run_piece.Given as goal

-- the lines that end before the rest are carried out, and none has begun
abbrev pub invariant-loop-whole : goal.invariant-loop-whole
invariant-loop-whole g l = (front : List ℕ) × (l.piece ≡ front ++ l.rest)
    × ((bytes : List ℕ) → rest_of (bytes ++ front) ≡ [])
    × ((start : Shown) (pen : Pen) (bytes : List ℕ) → Stands start pen bytes l.fn.core l.fn.line (pen_of g.W.Write.contents l.fn.out)
    → Stands start pen (bytes ++ front) l.core l.line (pen_of g.W.Write.contents l.out))

abbrev pub decreases-loop-whole : goal.decreases-loop-whole
decreases-loop-whole g l = length l.rest
