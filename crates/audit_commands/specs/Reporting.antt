-- What `report` says, and the page that it writes (own rule).
use Rattle.std.specs.Prelude.{◌≡◌, ◌⊎◌, ℕ, Bool, Option, Some, None, List, [], codes}
use Rattle.hii_bytes.specs.declared.cause.Cause.TheVariants.{OutOfMemory}
use Rattle.session_steps.specs.State.{State, world_of}
use Rattle.audit_json.specs.declared.telling.Telling.TheVariants.{Lines}
use Rattle.question_audit.specs.Reach.{TellsReached}
use Rattle.report_audit.specs.Reports.{IsPage, report}
use Rattle.survey_audit.specs.AuditedAt.{audited_at}
use Rattle.audit_answers.specs.Endings.{refused_told}
use Rattle.audit_answers.specs.declared.ended.Ended.{Ended}
use Rattle.audit_answers.specs.declared.ended.Ended.TheVariants.{Done, Refused, WriteOut, NoMemory}
use Rattle.audit_commands.specs.Auditing.{Asked, IsOpenRefusal, Starts}

-- The bytes open a session, and this is the page on its form set; or that page is longer than one may be.
pub record Reports (asked : Asked) (page : Option (List ℕ)) : Type 0 where
  pub start : State
  pub opens : Starts asked start
  pub is_reached : ℕ → Bool
  pub reached : TellsReached (world_of start) is_reached
  pub is : IsPage (report (audited_at start) is_reached) page

abbrev pub long_page_text : List ℕ
long_page_text = codes "page above 16777216 bytes\n"

-- Nothing is told, and the file has the page; or it is told why there is none.
abbrev pub SaysReport : Asked → List ℕ → Ended → List ℕ → Type 0
SaysReport asked bytes Done text = Reports asked (Some bytes) × (text ≡ [])
SaysReport asked bytes WriteOut text = Reports asked (Some bytes) × (text ≡ [])
SaysReport asked bytes Refused text =
    (Reports asked None × (text ≡ long_page_text)) ⊎ IsOpenRefusal Lines asked text
SaysReport asked bytes NoMemory text = text ≡ refused_told Lines OutOfMemory
SaysReport asked bytes _ text = ⊥
