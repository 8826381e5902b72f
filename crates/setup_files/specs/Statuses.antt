-- The statuses with which a program ends (own rule).
use Rattle.std.specs.Prelude.{ℕ, Bool, true, false}
use Rattle.hii_bytes.specs.declared.cause.Cause.{Cause}
use Rattle.hii_bytes.specs.declared.cause.Cause.TheVariants.{OutOfMemory}
use Rattle.setup_files.specs.declared.endings.Status.{Status}
use Rattle.setup_files.specs.declared.endings.Status.TheVariants as status

-- the number that the system is told
abbrev pub number_of_status : Status → ℕ
number_of_status status.Done = 0
number_of_status status.Refused = 1
number_of_status status.Usage = 2
number_of_status status.Fault = 3
number_of_status status.NoMemory = 4

-- the status behind a refusal without a place, by whether the writer failed that was told
abbrev pub status_of_refusal : Cause → Bool → Status
status_of_refusal cause true = status.Fault
status_of_refusal OutOfMemory false = status.NoMemory
status_of_refusal cause false = status.Refused
