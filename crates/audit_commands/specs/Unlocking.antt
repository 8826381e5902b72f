-- What `unlock` says over bytes (own rule).
use Rattle.std.specs.Prelude.{◌≡◌, ◌⊎◌, ℕ, Bool, true, false, Option, List, [], ◌++◌}
use Rattle.hii_bytes.specs.declared.cause.Cause.TheVariants.{OutOfMemory}
use Rattle.session_steps.specs.State.{State}
use Rattle.audit_json.specs.declared.telling.Telling.{Telling}
use Rattle.unlock_audit.specs.Told.{asked_told, is_there_asked}
use Rattle.audit_answers.specs.Endings.{refused_told}
use Rattle.audit_answers.specs.declared.ended.Ended.{Ended}
use Rattle.audit_answers.specs.declared.ended.Ended.TheVariants.{Done, Refused, NoMemory}
use Rattle.audit_commands.specs.Auditing.{Asked, IsOpenRefusal, Starts}

-- The bytes open a session, and this text tells what opens its questions, or the question of an id; or that there is none.
pub record Unlocks (telling : Telling) (is_there : Bool) (asked : Asked) (id : Option ℕ) (text : List ℕ) : Type 0 where
  pub start : State
  pub opens : Starts asked start
  pub there : is_there ≡ is_there_asked start id
  pub told : text ≡ asked_told telling start id

-- Nothing is told; or the bytes open a session, and this text begins to tell that.
abbrev pub BeginsUnlocks : Telling → Asked → Option ℕ → List ℕ → Type 0
BeginsUnlocks telling asked id text =
    (text ≡ [])
    ⊎ ((start : State) × Starts asked start × (rest : List ℕ) × (asked_told telling start id ≡ text ++ rest))

abbrev pub SaysUnlock : Telling → Asked → Option ℕ → Ended → List ℕ → Type 0
SaysUnlock telling asked id Done text = Unlocks telling true asked id text
SaysUnlock telling asked id Refused text =
    Unlocks telling false asked id text ⊎ IsOpenRefusal telling asked text
SaysUnlock telling asked id NoMemory text =
    (begun : List ℕ) × BeginsUnlocks telling asked id begun
    × (text ≡ begun ++ refused_told telling OutOfMemory)
SaysUnlock telling asked id _ text = ⊥
