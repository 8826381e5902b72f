-- What `questions` and `question` say over bytes (own rule).
use Rattle.std.specs.Prelude.{◌≡◌, ◌⊎◌, ◌+◌, ℕ, Bool, true, false, List, [], ◌++◌}
use Rattle.hii_bytes.specs.declared.cause.Cause.TheVariants.{OutOfMemory}
use Rattle.session_steps.specs.Opening.{IsOpenFault, Opens}
use Rattle.session_steps.specs.State.{State, world_of}
use Rattle.question_audit.specs.Audited.{Audited}
use Rattle.question_audit.specs.FormLines.{questions_text}
use Rattle.question_audit.specs.Reach.{TellsReached}
use Rattle.question_audit.specs.QuestionFacts.{BeginsQuestionText, IsQuestionText}
use Rattle.audit_json.specs.Telling.{told_as}
use Rattle.audit_json.specs.declared.telling.Telling.{Telling}
use Rattle.audit_json.specs.declared.telling.Telling.TheVariants.{Lines, Objects}
use Rattle.question_objects.specs.FormSets.{form_set_objects}
use Rattle.question_objects.specs.Objects.{BeginsQuestionObjectText, IsQuestionObject}
use Rattle.question_audit.specs.declared.origin.Origin.{Origin}
use Rattle.audit_options.specs.declared.tasks.FormSetOptions.{FormSetOptions}
use Rattle.setup_files.specs.declared.given.FormSetFiles.{FormSetFiles}
use Rattle.survey_audit.specs.AuditedAt.{audited_at}
use Rattle.audit_answers.specs.Endings.{IsRefusal, refused_told}
use Rattle.audit_answers.specs.Listing.{Listed}
use Rattle.audit_answers.specs.declared.ended.Ended.{Ended}
use Rattle.audit_answers.specs.declared.ended.Ended.TheVariants.{Done, Refused, NoMemory}

-- what an audit is asked for: the bytes of a list, the number of a forms package, an image of its stores, a language
pub record Asked : Type 0 where
  pub list : List ℕ
  pub forms : ℕ
  pub stores : List ℕ
  pub lang : List ℕ

abbrev pub asked_of : FormSetOptions → FormSetFiles → Listed → Asked
asked_of options files list = record {
  list = list.bytes;
  forms = options.list.forms;
  stores = files.stores.bytes.items;
  lang = options.lang.now;
}

-- A session opens over what is asked for.
abbrev pub Starts : Asked → State → Type 0
Starts asked start = Opens asked.list asked.forms asked.stores asked.lang start

-- the forms and questions of a form set, whose package stands there in the file, in lines or as objects
abbrev pub questions_told : Telling → Audited → (ℕ → Bool) → ℕ → List ℕ
questions_told telling a is_reached place =
    told_as telling (questions_text a is_reached) (form_set_objects a is_reached place)

-- the place of a package in the file, by that of its list
abbrev pub placed_in : Origin → ℕ → Origin
placed_in list place = record list { place = list.place + place }

-- The bytes open a session, and this text tells its forms and questions, in lines or as objects, so that a verdict is the one with
-- which the session answers `why` at first; the list begins there in the file.
pub record Audits (telling : Telling) (asked : Asked) (origin : Origin) (text : List ℕ) : Type 0 where
  pub start : State
  pub opens : Starts asked start
  pub is_reached : ℕ → Bool
  pub reached : TellsReached (world_of start) is_reached
  pub told : text
      ≡ questions_told telling (audited_at start) is_reached (origin.place + opens.source.place)

-- Nothing is told; or the bytes open a session, and this text begins to tell that in objects.
abbrev pub BeginsAudits : Telling → Asked → Origin → List ℕ → Type 0
BeginsAudits Lines asked origin text = text ≡ []
BeginsAudits Objects asked origin text =
    (text ≡ [])
    ⊎ ((whole : List ℕ) × Audits Objects asked origin whole × (rest : List ℕ) × (whole ≡ text ++ rest))

-- what is known of the question of an id, in lines or as an object; or that there is none
abbrev pub IsTold : Telling → Bool → Audited → Origin → ℕ → List ℕ → Type 0
IsTold Lines is_there a origin id text = IsQuestionText is_there a origin id text
IsTold Objects is_there a origin id text = IsQuestionObject is_there a origin id text

abbrev pub BeginsTold : Telling → Audited → Origin → ℕ → List ℕ → Type 0
BeginsTold Lines a origin id text = BeginsQuestionText a origin id text
BeginsTold Objects a origin id text = BeginsQuestionObjectText a origin id text

-- The bytes open a session, and this text tells what is known of the question of an id, with its byte in the file, where the list begins
-- there; or that there is none.
pub record AuditsQuestion (telling : Telling) (is_there : Bool) (asked : Asked) (origin : Origin) (id : ℕ) (text : List ℕ) : Type 0 where
  pub start : State
  pub opens : Starts asked start
  pub told : IsTold telling is_there (audited_at start) (placed_in origin opens.source.place) id text

-- Nothing is told; or the bytes open a session, and this text begins to tell that.
abbrev pub BeginsAuditsQuestion : Telling → Asked → Origin → ℕ → List ℕ → Type 0
BeginsAuditsQuestion telling asked origin id text =
    (text ≡ [])
    ⊎ ((start : State)
    × (opens : Starts asked start)
    × BeginsTold telling (audited_at start) (placed_in origin opens.source.place) id text)

-- the text tells the least fault of what is asked for
abbrev pub IsOpenRefusal : Telling → Asked → List ℕ → Type 0
IsOpenRefusal telling asked = IsRefusal telling (IsOpenFault asked.list asked.forms asked.stores)

abbrev pub SaysQuestions : Telling → Asked → Origin → Ended → List ℕ → Type 0
SaysQuestions telling asked origin Done text = Audits telling asked origin text
SaysQuestions telling asked origin Refused text = IsOpenRefusal telling asked text
SaysQuestions telling asked origin NoMemory text =
    (begun : List ℕ) × BeginsAudits telling asked origin begun
    × (text ≡ begun ++ refused_told telling OutOfMemory)
SaysQuestions telling asked origin _ text = ⊥

abbrev pub SaysQuestion : Telling → Asked → Origin → ℕ → Ended → List ℕ → Type 0
SaysQuestion telling asked origin id Done text = AuditsQuestion telling true asked origin id text
SaysQuestion telling asked origin id Refused text =
    AuditsQuestion telling false asked origin id text ⊎ IsOpenRefusal telling asked text
SaysQuestion telling asked origin id NoMemory text =
    (begun : List ℕ) × BeginsAuditsQuestion telling asked origin id begun
    × (text ≡ begun ++ refused_told telling OutOfMemory)
SaysQuestion telling asked origin id _ text = ⊥
