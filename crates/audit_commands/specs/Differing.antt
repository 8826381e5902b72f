-- What `diff` says of two images (own rule).
use Rattle.std.specs.Prelude.{◌≡◌, ◌↔◌, ℕ, List, []}
use Rattle.hii_bytes.specs.Faults.{Then}
use Rattle.hii_bytes.specs.declared.cause.Cause.{Cause}
use Rattle.hii_bytes.specs.declared.cause.Cause.TheVariants.{OutOfMemory}
use Rattle.session_steps.specs.Opening.{IsOpenFault}
use Rattle.session_steps.specs.State.{State}
use Rattle.audit_json.specs.declared.telling.Telling.{Telling}
use Rattle.image_audit.specs.Difference.{difference_told}
use Rattle.audit_commands.specs.Auditing.{Asked, Starts}
use Rattle.survey_audit.specs.AuditedAt.{audited_at}
use Rattle.audit_answers.specs.Endings.{IsRefusal, refused_told}
use Rattle.audit_answers.specs.declared.ended.Ended.{Ended}
use Rattle.audit_answers.specs.declared.ended.Ended.TheVariants.{Done, Refused, NoMemory}

-- the same over another image
abbrev pub over : Asked → List ℕ → Asked
over asked image = record asked { stores = image }

-- the faults over the one image, then those over the other
abbrev pub IsDiffFault : Asked → List ℕ → Cause → ℕ → Type 0
IsDiffFault asked image =
    Then (IsOpenFault asked.list asked.forms asked.stores) (IsOpenFault asked.list asked.forms image)

-- A session opens over each image, and this text tells what the stores of the second hold otherwise than those of the first; it is
-- empty exactly where they hold the same.
pub record TellsDifference (telling : Telling) (asked : Asked) (image text : List ℕ) : Type 0 where
  pub one : State
  pub opens : Starts asked one
  pub other : State
  pub opens_other : Starts (over asked image) other
  pub told : text ≡ difference_told telling (audited_at one) (audited_at other)
  pub equal : (text ≡ []) ↔ (one.working ≡ other.working)

abbrev pub SaysDifference : Telling → Asked → List ℕ → Ended → List ℕ → Type 0
SaysDifference telling asked image Done text = TellsDifference telling asked image text
SaysDifference telling asked image Refused text = IsRefusal telling (IsDiffFault asked image) text
SaysDifference telling asked image NoMemory text = text ≡ refused_told telling OutOfMemory
SaysDifference telling asked image _ text = ⊥
