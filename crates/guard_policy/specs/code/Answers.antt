-- An answer that names what forbids.
use Rattle.std.specs.Prelude.{Option, Some, None, Result, Ok, Err}
use Rattle.guard_policy.specs.declared.denial.Denial.{Denial}

-- an answer that names what forbids, if something does
abbrev pub unless : Option Denial → Result Unit Denial
unless None = Ok tt
unless (Some denial) = Err denial
