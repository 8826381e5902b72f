-- What `apply` says of a script, and the image that it writes (own rule).
use Rattle.std.specs.Prelude.{◌≡◌, ◌⊎◌, ◌+◌, ℕ, Some, None, List, [], ◌++◌}
use Rattle.hii_bytes.specs.declared.cause.Cause.TheVariants.{OutOfMemory}
use Rattle.hii_varstore.specs.Image.{image_of}
use Rattle.session_steps.specs.State.{State}
use Rattle.audit_json.specs.declared.telling.Telling.{Telling}
use Rattle.question_audit.specs.declared.origin.Origin.{Origin}
use Rattle.script_audit.specs.Apply.{Applied, applied}
use Rattle.audit_answers.specs.Endings.{refused_told}
use Rattle.audit_answers.specs.declared.ended.Ended.{Ended}
use Rattle.audit_answers.specs.declared.ended.Ended.TheVariants.{Done, Refused, WriteOut, NoMemory}
use Rattle.audit_commands.specs.Auditing.{Asked, IsOpenRefusal, Starts}

-- A session opens over what is asked for, and the script tells and leaves this, where the list begins there in the file.
pub record Applies (telling : Telling) (asked : Asked) (origin : Origin) (script : List ℕ) (a : Applied) : Type 0 where
  pub start : State
  pub opens : Starts asked start
  pub is : a ≡ applied telling (origin.place + opens.source.place) start script

-- The text is told, and the bytes are the image of the stores that the script leaves committed.
abbrev pub IsApplied : Telling → Asked → Origin → List ℕ → List ℕ → List ℕ → Type 0
IsApplied telling asked origin script bytes text =
    (a : Applied) × Applies telling asked origin script a × (text ≡ a.told)
    × (end : State) × (a.left ≡ Some end) × (bytes ≡ image_of end.committed)

-- The text is told, and nothing is left.
abbrev pub IsStopped : Telling → Asked → Origin → List ℕ → List ℕ → Type 0
IsStopped telling asked origin script text =
    (a : Applied) × Applies telling asked origin script a × (text ≡ a.told) × (a.left ≡ None)

-- Nothing is told, or the text begins what is.
abbrev pub BeginsApply : Telling → Asked → Origin → List ℕ → List ℕ → Type 0
BeginsApply telling asked origin script text =
    (text ≡ [])
    ⊎ ((a : Applied) × Applies telling asked origin script a × (rest : List ℕ)
    × (a.told ≡ text ++ rest))

abbrev pub SaysApply : Telling → Asked → Origin → List ℕ → List ℕ → Ended → List ℕ → Type 0
SaysApply telling asked origin script bytes Done text = IsApplied telling asked origin script bytes text
SaysApply telling asked origin script bytes WriteOut text = IsApplied telling asked origin script bytes text
SaysApply telling asked origin script bytes Refused text =
    IsStopped telling asked origin script text ⊎ IsOpenRefusal telling asked text
SaysApply telling asked origin script bytes NoMemory text =
    (begun : List ℕ) × BeginsApply telling asked origin script begun
    × (text ≡ begun ++ refused_told telling OutOfMemory)
SaysApply telling asked origin script bytes _ text = ⊥
