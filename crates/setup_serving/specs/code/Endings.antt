-- What a run begins with where something is held back; how a refusal is told, and an image.
use Rattle.std.specs.Prelude.{◌≡◌, ◌≢◌, ◌⊎◌, List, [], ℕ}
use Rattle.hii_bytes.specs.declared.cause.Cause.TheVariants.{OutOfMemory}
use Rattle.hii_bytes.specs.declared.cause.Fault.{Fault}
use Rattle.hii_bytes.specs.Watching.{Pen, BreaksWithin}
use Rattle.session_steps.specs.Texts.{refused_text, refused_at_text}
use Rattle.setup_serving.specs.declared.serving.Ended.{Ended}
use Rattle.setup_serving.specs.declared.serving.Ended.TheVariants.{Done, Refused, WriteAnswers, WriteOut, NoMemory}
use Rattle.setup_serving.specs.Serving.{Ends, IsWritten, FailsWithin, with_held}

-- what a run meets, where what the buffer holds back counts as written
abbrev pub all_told : Ends → Ends
all_told ends = record ends { answers = with_held ends; held = [] }

-- A fault is told: out of memory without a place, any other at its place.
abbrev pub IsTold : Fault → Pen → Ended → Pen → Type 0
IsTold fault old Refused new = (fault.cause ≢ OutOfMemory) × IsWritten old new (refused_at_text fault)
IsTold fault old NoMemory new =
    (fault.cause ≡ OutOfMemory) × IsWritten old new (refused_text OutOfMemory)
IsTold fault old WriteAnswers new =
    ((fault.cause ≢ OutOfMemory) × BreaksWithin old new (refused_at_text fault))
    ⊎ BreaksWithin old new (refused_text OutOfMemory)
IsTold fault old _ new = ⊥

-- An image is written and passed on, or its writer fails.
abbrev pub IsImageTold : List ℕ → Pen → Ended → Pen → Type 0
IsImageTold image old Done new = IsWritten old new image
IsImageTold image old WriteOut new = FailsWithin old new image
IsImageTold image old _ new = ⊥
