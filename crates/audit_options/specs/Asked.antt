-- What the words of a command line ask for: each option is the first value of its name (own rule).
use Rattle.std.specs.Prelude.{◌≡◌, ◌⊎◌, ◌<◌, ◌^◌, ◌==◌, ◌&&◌, ◌||◌, ◌∷◌, ℕ, Bool, true, false, if◌then◌else◌, is_none, ⊤, Option, Some, None, List, [], codes, is_some, length, option_map, unwrap_or}
use Rattle.std.specs.List.{after_first, before_first, position_or_len}
use Rattle.std.specs.Str.{bytes_eq}
use Rattle.std.specs.Str.Parse.{IsNumeral, digits_value, without_leading_plus}
use Rattle.clap.specs.Words.{Row, Text, all_of, first_of, one_of}
use Rattle.clap.specs.declared.error.ErrorKind.{ErrorKind}
use Rattle.clap.specs.declared.error.ErrorKind.TheVariants as kind
use Rattle.audit_options.specs.Ids.{id_in}
use Rattle.audit_options.specs.declared.reading.Misuse.{Misuse}
use Rattle.audit_options.specs.declared.reading.Misuse.TheVariants.{NoCommand, NoId, NoPart, NoStoreFile, NoStoreId, TakeWithoutOut}
use Rattle.audit_options.specs.declared.tasks.Task.{Task}
use Rattle.audit_options.specs.declared.tasks.Task.TheVariants.{Split, Stores, Check, Opcodes, Image, Questions, Question, Unlock, Apply, Export, Diff, Report, Survey}
use Rattle.audit_options.specs.declared.tasks.TakenList.{TakenList}
use Rattle.audit_options.specs.declared.tasks.SplitOptions.{SplitOptions}
use Rattle.audit_options.specs.declared.tasks.ListOptions.{ListOptions}
use Rattle.audit_options.specs.declared.tasks.CheckOptions.{CheckOptions}
use Rattle.audit_options.specs.declared.tasks.ApplyOptions.{ApplyOptions}
use Rattle.audit_options.specs.declared.tasks.OpcodesOptions.{OpcodesOptions}
use Rattle.audit_options.specs.declared.tasks.FormSetOptions.{FormSetOptions}
use Rattle.audit_options.specs.declared.tasks.QuestionOptions.{QuestionOptions}
use Rattle.audit_options.specs.declared.tasks.DiffOptions.{DiffOptions}
use Rattle.audit_options.specs.declared.tasks.ExportOptions.{ExportOptions}
use Rattle.audit_options.specs.declared.tasks.ExportPart.{ExportPart}
use Rattle.audit_options.specs.declared.tasks.ExportPart.TheVariants.{Store, Lines}
use Rattle.audit_options.specs.declared.tasks.ImageOptions.{ImageOptions}
use Rattle.audit_options.specs.declared.tasks.ReportOptions.{ReportOptions}
use Rattle.audit_options.specs.declared.tasks.StoreFile.{StoreFile}
use Rattle.audit_options.specs.declared.tasks.Sources.{Sources}
use Rattle.audit_options.specs.declared.tasks.StoresOptions.{StoresOptions}
use Rattle.audit_options.specs.declared.tasks.SurveyOptions.{SurveyOptions}
use Rattle.audit_options.specs.declared.tasks.UnlockOptions.{UnlockOptions}

-- ---- values

-- the first text of an option, or this one where it has none
abbrev pub text_in : List Row → Text → Text → Text
text_in rows name other = unwrap_or (first_of name rows) other

abbrev pub number_in : Text → ℕ
number_in text = digits_value 10 (without_leading_plus text)

-- The text is a decimal number below 2^bits, a plus before it or not.
abbrev pub IsNumber : ℕ → Text → Type 0
IsNumber bits text = IsNumeral 10 (without_leading_plus text) × (number_in text < 2 ^ bits)

-- The number is that of a text, or this one where there is no text, or none of a number.
abbrev pub Reads : ℕ → Option Text → ℕ → ℕ → Type 0
Reads bits None other number = number ≡ other
Reads bits (Some text) other number =
    (IsNumber bits text × (number ≡ number_in text)) ⊎ (¬ (IsNumber bits text) × (number ≡ other))

-- The number is that of a text; or there is no text, or none of a number.
abbrev pub ReadsIfGiven : ℕ → Option Text → Option ℕ → Type 0
ReadsIfGiven bits found None = (text : Text) → found ≡ Some text → ¬ (IsNumber bits text)
ReadsIfGiven bits found (Some number) =
    (text : Text) × (found ≡ Some text) × IsNumber bits text × (number ≡ number_in text)

-- A flag is true where its text says so, and false where there is none.
abbrev pub IsFlag : Option Text → Bool → Type 0
IsFlag None flag = flag ≡ false
IsFlag (Some text) flag =
    (text ≡ codes "true" → flag ≡ true) × (text ≡ codes "false" → flag ≡ false)

-- ---- the options of each command

pub record AsksList (rows : List Row) (o : ListOptions) : Type 0 where
  pub path : o.path.now ≡ text_in rows (codes "list") []
  pub take : ReadsIfGiven 64 (one_of (codes "take") rows) o.take
  pub forms : Reads 16 (one_of (codes "forms") rows) 1 o.forms

pub record AsksStores (rows : List Row) (o : StoresOptions) : Type 0 where
  pub list : AsksList rows o.list
  pub headers : IsFlag (one_of (codes "headers") rows) o.headers
  pub json : IsFlag (one_of (codes "json") rows) o.json

pub record AsksCheck (rows : List Row) (o : CheckOptions) : Type 0 where
  pub path : o.path.now ≡ text_in rows (codes "list") []
  pub take : ReadsIfGiven 64 (one_of (codes "take") rows) o.take
  pub json : IsFlag (one_of (codes "json") rows) o.json

pub record AsksOpcodes (rows : List Row) (o : OpcodesOptions) : Type 0 where
  pub list : AsksList rows o.list
  pub json : IsFlag (one_of (codes "json") rows) o.json

pub record AsksFormSet (rows : List Row) (o : FormSetOptions) : Type 0 where
  pub list : AsksList rows o.list
  pub stores : o.stores.now ≡ text_in rows (codes "stores") []
  pub json : IsFlag (one_of (codes "json") rows) o.json
  pub lang : o.lang.now ≡ text_in rows (codes "lang") (codes "en-US")

pub record AsksQuestion (rows : List Row) (o : QuestionOptions) : Type 0 where
  pub form_set : AsksFormSet rows o.form_set
  pub id : id_in (text_in rows (codes "id") []) ≡ Some o.id

pub record AsksUnlock (rows : List Row) (o : UnlockOptions) : Type 0 where
  pub form_set : AsksFormSet rows o.form_set
  pub id : option_map id_in (first_of (codes "id") rows) ≡ option_map Some o.id

pub record AsksApply (rows : List Row) (o : ApplyOptions) : Type 0 where
  pub form_set : AsksFormSet rows o.form_set
  pub script : o.script.now ≡ text_in rows (codes "script") []
  pub out : o.out.now ≡ text_in rows (codes "out") []

-- A store's bytes go into a file, and no line is asked for; or lines are, and no store.
abbrev pub AsksPart : List Row → ExportPart → Type 0
AsksPart rows (Store id out) =
    (text : Text) × (first_of (codes "id") rows ≡ Some text) × (id_in text ≡ Some id)
    × (first_of (codes "out") rows ≡ Some out.now) × (first_of (codes "with") rows ≡ None)
    × IsFlag (one_of (codes "lines") rows) false
AsksPart rows (Lines with) =
    (first_of (codes "id") rows ≡ None) × (first_of (codes "out") rows ≡ None)
    × (option_map (λ file. file.now) with ≡ first_of (codes "with") rows)
    × IsFlag (one_of (codes "lines") rows) true

pub record AsksExport (rows : List Row) (o : ExportOptions) : Type 0 where
  pub list : AsksList rows o.list
  pub stores : o.stores.now ≡ text_in rows (codes "stores") []
  pub part : AsksPart rows o.part
  pub json : IsFlag (one_of (codes "json") rows) o.json

pub record AsksDiff (rows : List Row) (o : DiffOptions) : Type 0 where
  pub form_set : AsksFormSet rows o.form_set
  pub with : o.with.now ≡ text_in rows (codes "with") []

pub record AsksReport (rows : List Row) (o : ReportOptions) : Type 0 where
  pub form_set : AsksFormSet rows o.form_set
  pub out : o.out.now ≡ text_in rows (codes "out") []

-- The list of a number is taken into a file; or there is neither.
abbrev pub AsksTaken : List Row → Option TakenList → Type 0
AsksTaken rows None =
    ReadsIfGiven 64 (one_of (codes "take") rows) None × (first_of (codes "out") rows ≡ None)
AsksTaken rows (Some taken) =
    ReadsIfGiven 64 (one_of (codes "take") rows) (Some taken.number)
    × (first_of (codes "out") rows ≡ Some taken.out.now)

pub record AsksSplit (rows : List Row) (o : SplitOptions) : Type 0 where
  pub dump : o.dump.now ≡ text_in rows (codes "dump") []
  pub taken : AsksTaken rows o.taken
  pub json : IsFlag (one_of (codes "json") rows) o.json

abbrev pub is_equals_sign : ℕ → Bool
is_equals_sign c = c == 61

-- The word is an id and a file, as 16=station.bin.
pub record IsStoreFile (word : Text) (file : StoreFile) : Type 0 where
  pub has_sign : position_or_len is_equals_sign word < length word
  pub id : id_in (before_first is_equals_sign word) ≡ Some file.id
  pub path : file.path.now ≡ after_first is_equals_sign word

abbrev pub AreStoreFiles : List Text → List StoreFile → Type 0
AreStoreFiles [] [] = ⊤
AreStoreFiles (word ∷ words) (file ∷ files) = IsStoreFile word file × AreStoreFiles words files
AreStoreFiles _ _ = ⊥

-- where the bytes of stores come from that are given no file
pub record AsksSources (rows : List Row) (o : Sources) : Type 0 where
  pub efivars : option_map (λ folder. folder.now) o.efivars ≡ first_of (codes "efivars") rows
  pub config : option_map (λ file. file.now) o.config ≡ first_of (codes "config") rows
  pub zero : IsFlag (one_of (codes "zero") rows) o.zero

pub record AsksImage (rows : List Row) (o : ImageOptions) : Type 0 where
  pub list : AsksList rows o.list
  pub out : o.out.now ≡ text_in rows (codes "out") []
  pub files : AreStoreFiles (unwrap_or (all_of (codes "store") rows) []) o.sources.files.items
  pub sources : AsksSources rows o.sources
  pub defaults : ReadsIfGiven 16 (one_of (codes "defaults") rows) o.defaults
  pub json : IsFlag (one_of (codes "json") rows) o.json
  pub lang : o.lang.now ≡ text_in rows (codes "lang") (codes "en-US")

pub record AsksSurvey (rows : List Row) (o : SurveyOptions) : Type 0 where
  pub dump : o.dump.now ≡ text_in rows (codes "dump") []
  pub files : o.sources.files.items ≡ []
  pub sources : AsksSources rows o.sources
  pub find : option_map (λ text. text.now) o.find ≡ first_of (codes "find") rows
  pub json : IsFlag (one_of (codes "json") rows) o.json
  pub lang : o.lang.now ≡ text_in rows (codes "lang") (codes "en-US")

-- The command that the words name, with its options, asks for this.
abbrev pub Asks : Option (Text × List Row) → Task → Type 0
Asks None task = ⊥
Asks (Some met) (Split o) = (met.0 ≡ codes "split") × AsksSplit met.1 o
Asks (Some met) (Stores o) = (met.0 ≡ codes "stores") × AsksStores met.1 o
Asks (Some met) (Check o) = (met.0 ≡ codes "check") × AsksCheck met.1 o
Asks (Some met) (Opcodes o) = (met.0 ≡ codes "opcodes") × AsksOpcodes met.1 o
Asks (Some met) (Image o) = (met.0 ≡ codes "image") × AsksImage met.1 o
Asks (Some met) (Questions o) = (met.0 ≡ codes "questions") × AsksFormSet met.1 o
Asks (Some met) (Question o) = (met.0 ≡ codes "question") × AsksQuestion met.1 o
Asks (Some met) (Unlock o) = (met.0 ≡ codes "unlock") × AsksUnlock met.1 o
Asks (Some met) (Apply o) = (met.0 ≡ codes "apply") × AsksApply met.1 o
Asks (Some met) (Export o) = (met.0 ≡ codes "export") × AsksExport met.1 o
Asks (Some met) (Diff o) = (met.0 ≡ codes "diff") × AsksDiff met.1 o
Asks (Some met) (Report o) = (met.0 ≡ codes "report") × AsksReport met.1 o
Asks (Some met) (Survey o) = (met.0 ≡ codes "survey") × AsksSurvey met.1 o

-- ---- options that do not go together

-- which errors clap has for them
abbrev pub kind_of_misuse : Misuse → ErrorKind
kind_of_misuse NoCommand = kind.MissingSubcommand
kind_of_misuse TakeWithoutOut = kind.MissingRequiredArgument
kind_of_misuse NoStoreFile = kind.ValueValidation
kind_of_misuse NoId = kind.ValueValidation
kind_of_misuse NoStoreId = kind.ValueValidation
kind_of_misuse NoPart = kind.ArgumentConflict

-- No list is taken by a number, though there is a file for it; or one is, and there is none.
abbrev pub AreApart : List Row → Type 0
AreApart rows =
    ((first_of (codes "out") rows ≡ None)
    × (number : ℕ) × ReadsIfGiven 64 (one_of (codes "take") rows) (Some number))
    ⊎ ((is_some (first_of (codes "out") rows) ≡ true)
    × ReadsIfGiven 64 (one_of (codes "take") rows) None)

-- Some word that gives a file to a store is no id and file.
abbrev pub HasNoStoreFile : List Row → Type 0
HasNoStoreFile rows = (files : List StoreFile)
    → AreStoreFiles (unwrap_or (all_of (codes "store") rows) []) files → ⊥

-- The word that gives an id is none.
abbrev pub HasNoId : List Row → Type 0
HasNoId rows = id_in (text_in rows (codes "id") []) ≡ None

-- whether options of `export` go together: an id and a file alone, or the flag for lines with another image or without
abbrev pub is_part : Option Text → Option Text → Option Text → Bool → Bool
is_part id out with lines =
    if lines then is_none id && is_none out else is_some id && (is_some out && is_none with)

-- They do not.
abbrev pub HasNoPart : List Row → Type 0
HasNoPart rows =
    (lines : Bool) × IsFlag (one_of (codes "lines") rows) lines
    × (is_part (first_of (codes "id") rows) (first_of (codes "out") rows)
    (first_of (codes "with") rows) lines ≡ false)

-- A word gives an id, and is none.
abbrev pub HasBadId : List Row → Type 0
HasBadId rows = (text : Text) × (first_of (codes "id") rows ≡ Some text) × (id_in text ≡ None)

abbrev pub IsMisusedExport : List Row → Misuse → Type 0
IsMisusedExport rows NoPart = HasNoPart rows
IsMisusedExport rows NoStoreId = HasBadId rows
IsMisusedExport rows _ = ⊥

abbrev pub is_list_command : Text → Bool
is_list_command name =
    bytes_eq name (codes "split")
    || (bytes_eq name (codes "stores")
    || (bytes_eq name (codes "check")
    || (bytes_eq name (codes "opcodes") || bytes_eq name (codes "image"))))

abbrev pub is_form_set_command : Text → Bool
is_form_set_command name =
    bytes_eq name (codes "questions")
    || (bytes_eq name (codes "question")
    || (bytes_eq name (codes "unlock")
    || (bytes_eq name (codes "apply")
    || (bytes_eq name (codes "export")
    || (bytes_eq name (codes "diff")
    || (bytes_eq name (codes "report") || bytes_eq name (codes "survey")))))))

abbrev pub is_command : Text → Bool
is_command name = is_list_command name || is_form_set_command name

-- The options of the command that the words name do not go together, or the words name none.
abbrev pub IsMisused : Option (Text × List Row) → Misuse → Type 0
IsMisused None misuse = misuse ≡ NoCommand
IsMisused (Some met) NoCommand = is_command met.0 ≡ false
IsMisused (Some met) TakeWithoutOut = (met.0 ≡ codes "split") × AreApart met.1
IsMisused (Some met) NoStoreFile = (met.0 ≡ codes "image") × HasNoStoreFile met.1
IsMisused (Some met) NoId =
    ((met.0 ≡ codes "question") × HasNoId met.1) ⊎ ((met.0 ≡ codes "unlock") × HasBadId met.1)
IsMisused (Some met) NoStoreId = (met.0 ≡ codes "export") × HasBadId met.1
IsMisused (Some met) NoPart = (met.0 ≡ codes "export") × HasNoPart met.1
