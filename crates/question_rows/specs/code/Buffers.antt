-- Texts that are written into memory.
use Rattle.std.specs.Prelude.{ℕ, false, Some, List, []}
use Rattle.std.specs.Global.{Vec}
use Rattle.hii_bytes.specs.declared.watched.Watched.{Watched}
use Rattle.hii_bytes.specs.Watching.{Pen, Writes}

-- what an empty buffer holds, and what one holds
abbrev pub empty : Pen
empty = record { known = Some []; broken = false; count = 0 }

abbrev pub held : Watched (Vec ℕ) → Pen
held w = record { known = Some w.inner.items; broken = w.is_failed; count = w.taken }

-- A text was written into it.
abbrev pub Holds : Watched (Vec ℕ) → List ℕ → Type 0
Holds w text = Writes empty (held w) text
