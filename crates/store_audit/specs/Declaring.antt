-- What refuses a list before its stores and questions are told (own rule).
use Rattle.std.specs.Prelude.{ℕ, List}
use Rattle.hii_bytes.specs.Faults.{Then}
use Rattle.hii_bytes.specs.declared.cause.Cause.{Cause}
use Rattle.session_steps.specs.Opening.{forms_bytes, IsSourceFault, IsFormSetFault}

-- The faults of a list's packages and that there is no forms package of the number, then those of this forms package, of its
-- stores and of its questions.
abbrev pub IsDeclaredFault : List ℕ → ℕ → Cause → ℕ → Type 0
IsDeclaredFault list n = Then (IsSourceFault list n) (IsFormSetFault (forms_bytes list n))
