-- How structs of the code are seen, and what belongs together.
use Rattle.std.specs.Prelude.{◌≡◌, ℕ, option_map, List, []}
use Rattle.browser_rules.specs.Faults.{list_faults}
use Rattle.browser_rules.specs.Strings.{Spoken}
use Rattle.hii_bytes.specs.Faults.{HasNone}
use Rattle.hii_dumps.specs.code.Lists.{entry_of}
use Rattle.hii_dumps.specs.declared.lists.DumpedList.{DumpedList}
use Rattle.hii_packages.specs.code.Package.{package_of}
use Rattle.hii_varstore.specs.Image.{image_of}
use Rattle.hii_varstore.specs.Stores.{StoreMap}
use Rattle.session_steps.specs.Opening.{HasSource, HasTexts, Opens}
use Rattle.session_steps.specs.State.{State}
use Rattle.opcode_audit.specs.Lines.{said_first}
use Rattle.check_audit.specs.Verdicts.{IsListFault}
use Rattle.store_commands.specs.Files.{Known}
use Rattle.survey_audit.specs.AuditedAt.{audited_at}
use Rattle.survey_audit.specs.Lines as lines
use Rattle.survey_audit.specs.Opened.{opened_told}
use Rattle.survey_audit.specs.declared.heading.Heading.{Heading}
use Rattle.survey_commands.specs.Surveying as spec
use Rattle.survey_commands.specs.declared.asked.Asked.{Asked}
use Rattle.survey_commands.specs.declared.lists.SoundList.{SoundList}

abbrev pub asked_view : {F : Type 0} → (F → List ℕ → Known) → Asked F → spec.Asked
asked_view known a = record {
  telling = a.telling;
  known = known a.files.now;
  sources = a.options.now.sources;
  text = a.text.now;
  lang = a.options.now.lang.now;
  letters = option_map (λ letters. letters.now) a.letters;
}

abbrev pub numbered : ℕ → DumpedList → spec.Numbered
numbered number list = record { number = number; entry = entry_of list }

-- The forms package stands in a list, whose string packages say this.
pub record StandsIn (list : List ℕ) (h : Heading) (spoken : List Spoken) : Type 0 where
  pub found : HasSource list h.number (package_of h.source)
  pub texts : HasTexts list spoken

-- A session opens over the image of these stores, and this is told of it.
pub record TellsOpened (asked : spec.Asked) (list : List ℕ) (h : lines.Heading) (stores : StoreMap) (text : List ℕ) : Type 0 where
  pub start : State
  pub opens : Opens list h.number (image_of stores) asked.lang start
  pub is : text ≡ opened_told h (audited_at start) asked.letters

-- These are the parts of a list that has no fault but those of its forms packages.
pub record IsSoundList (list : List ℕ) (sound : SoundList) : Type 0 where
  pub packages : sound.packages ≡ list
  pub strings : sound.strings ≡ said_first list
  pub texts : HasTexts list sound.languages
  pub whole : list_faults list ≡ []
  pub none : HasNone (IsListFault list)
