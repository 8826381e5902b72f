-- What `survey` says of a dump (own rule).
use Rattle.std.specs.Prelude.{◌≡◌, ◌⊎◌, ℕ, true, false, Ok, Err, Option, option_map, List, [], ◌++◌, chars}
use Rattle.std.specs.Io.Buffered.{writer_contents}
use Rattle.std.specs.declared.io.BufWriter.{BufWriter}
use Rattle.hii_bytes.specs.Watching.{Flushes, Pen, Writes, pen_of}
use Rattle.hii_bytes.specs.declared.cause.Cause.TheVariants.{OutOfMemory}
use Rattle.hii_bytes.specs.declared.watched.Watched.{Watched}
use Rattle.exported_config.specs.Exported.{Response, responses_in}
use Rattle.exported_config.specs.declared.unread.BadResponse.{BadResponse}
use Rattle.audit_json.specs.Telling as telling
use Rattle.audit_options.specs.declared.tasks.SurveyOptions.{SurveyOptions}
use Rattle.audit_answers.specs.Endings.{refused_told}
use Rattle.audit_answers.specs.declared.ended.Ended.{Ended}
use Rattle.audit_answers.specs.declared.ended.Ended.TheVariants.{Done, Refused, NoMemory}
use Rattle.store_commands.specs.Configured.{IsText, bad_response_told}
use Rattle.store_commands.specs.Files.{Known}
use Rattle.survey_audit.specs.Finding.{small}
use Rattle.survey_commands.specs.Surveying.{Asked, BeginsSurvey, IsSurvey}

-- what the options ask for over a configuration text
abbrev pub asked_of : (List ℕ → Known) → SurveyOptions → List ℕ → Asked
asked_of known options text = record {
  telling = telling.asked options.json;
  known = known;
  sources = options.sources;
  text = text;
  lang = options.lang.now;
  letters = option_map (λ words. small (chars words.now)) options.find;
}

-- These are the bytes of the configuration text, which has no fault.
abbrev pub IsSound : (List ℕ → Known) → SurveyOptions → List ℕ → Type 0
IsSound known options text =
    IsText known (option_map (λ path. path.now) options.sources.config) text
    × (responses : List Response) × (responses_in text ≡ Ok responses)

-- The text tells the first response of the configuration text that has a fault.
abbrev pub IsBad : (List ℕ → Known) → SurveyOptions → List ℕ → Type 0
IsBad known options text =
    (bytes : List ℕ) × IsText known (option_map (λ path. path.now) options.sources.config) bytes
    × (bad : BadResponse) × (responses_in bytes ≡ Err bad)
    × (text ≡ bad_response_told (telling.asked options.json) bad)

-- Nothing is told, or the beginning of the lists.
abbrev pub Begins : (List ℕ → Known) → SurveyOptions → List ℕ → List ℕ → Type 0
Begins known options dump text =
    (text ≡ [])
    ⊎ ((config : List ℕ) × IsSound known options config × BeginsSurvey (asked_of known options config) dump text)

-- What was told before a file is not read is passed on, or the answers have failed.
abbrev pub BreaksOff : {A Z : Type 0} → (A → Option (List ℕ)) → (List ℕ → Known) → SurveyOptions → List ℕ → Watched (BufWriter A Z) → Watched (BufWriter A Z) → Type 0
BreaksOff contents known options dump old new =
    (text : List ℕ) × Begins known options dump text × (mid : Pen)
    × Writes (pen_of (writer_contents contents) old) mid text
    × Flushes mid (pen_of (writer_contents contents) new)

-- a line for each forms package of each list; or that there is no list, or by which response the configuration text is refused
abbrev pub SaysSurvey : (List ℕ → Known) → SurveyOptions → List ℕ → Ended → List ℕ → Type 0
SaysSurvey known options dump Done text =
    (config : List ℕ) × IsSound known options config × IsSurvey (asked_of known options config) true dump text
SaysSurvey known options dump Refused text =
    IsBad known options text
    ⊎ ((config : List ℕ) × IsSound known options config × IsSurvey (asked_of known options config) false dump text)
SaysSurvey known options dump NoMemory text =
    (begun : List ℕ) × Begins known options dump begun
    × (text ≡ begun ++ refused_told (telling.asked options.json) OutOfMemory)
SaysSurvey known options dump _ text = ⊥
