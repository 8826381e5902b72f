-- Bytes that are held in memory.
use Rattle.std.specs.Prelude.{ℕ, List}
use Rattle.report_audit.specs.declared.bounded.Bounded.{Bounded}

abbrev pub held_in : Bounded → List ℕ
held_in bounded = bounded.bytes.items
