-- The command line of `setup`, as clap reads it (own rule).
use Rattle.std.specs.Prelude.{◌≡◌, ℕ, ◌<◌, ◌^◌, ◌&&◌, ◌||◌, ◌==◌, Bool, true, false, not, nat_eq, pos, List, [], ◌∷◌, map, codes, is_some, unwrap_or, Some, String}
use Rattle.std.specs.List.{list_any, starts_with}
use Rattle.std.specs.Str.{bytes_eq}
use Rattle.std.specs.Str.Parse.{IsNumeral, digits_value, without_leading_plus}
use Rattle.clap.specs.Words.{App, IsPlainArg, Row, Rule, Text, first_of, first_value, matches_of, new_app, new_rule, one_of, with_rule}
use Rattle.clap.specs.Built.{TakesValue}
use Rattle.clap.specs.declared.builder.arg.Arg.{Arg}
use Rattle.clap.specs.declared.parser.matches.Found.{Found}
use Rattle.clap.specs.declared.builder.action.ArgAction.TheVariants.{Set}
use Rattle.clap.specs.declared.builder.value_parser.ValueParser.TheVariants.{Signed}
use Rattle.setup_options.specs.declared.command_line.Options.{Options}

-- ---- the options

-- an option with a value, `--NAME VALUE` or `--NAME=VALUE`
abbrev pub option_rule : Text → Rule
option_rule name = record (new_rule name) { long = Some name; value_names = 1 }

-- one that names a file, and must be given
abbrev pub file_rule : Text → Rule
file_rule name = record (option_rule name) { action = Some Set; required = true }

abbrev pub forms_rule : Rule
forms_rule = record (option_rule (codes "forms")) {
  defaults = codes "1" ∷ [];
  parser = Some (Signed (pos 1) (pos 65535));
}

abbrev pub lang_rule : Rule
lang_rule = record (option_rule (codes "lang")) { defaults = codes "en-US" ∷ [] }

-- a command that tells its version
abbrev pub versioned : App → App
versioned app = record app { top = record app.top { has_version = true } }

abbrev pub setup_app : App
setup_app =
    with_rule (with_rule (with_rule (with_rule (with_rule (versioned (new_app (codes "setup")))
    (file_rule (codes "list"))) (file_rule (codes "stores"))) (file_rule (codes "out")))
    forms_rule) lang_rule

-- ---- the words

abbrev pub texts_of : {A : Type 0} → List (String A) → List Text
texts_of words = map (λ word. word.bytes.items) words

-- whether a word that begins with a hyphen stands behind a word `--lang`, or is the first and `behind` says that it stands there
abbrev pub has_hyphen_behind_lang : Bool → List Text → Bool
has_hyphen_behind_lang behind [] = false
has_hyphen_behind_lang behind (word ∷ words) =
    (behind && starts_with nat_eq word (codes "-"))
    || has_hyphen_behind_lang (bytes_eq word (codes "--lang")) words

-- whether a word is an option that takes its value from the next word
abbrev pub takes_next : Text → Bool
takes_next word = starts_with nat_eq word (codes "--") && not (list_any (λ byte. byte == 61) word)

-- whether a word names a script, as people do who take it for a file: `--script`, or a word that is neither an option nor its value
abbrev pub names_script : Bool → List Text → Bool
names_script is_value [] = false
names_script is_value (word ∷ words) =
    (not is_value && (starts_with nat_eq word (codes "--script")
    || not (starts_with nat_eq word (codes "-"))))
    || names_script (not is_value && takes_next word) words

-- what clap finds in the words
abbrev pub rows_on : List Text → List Row
rows_on words = matches_of setup_app words

-- The options that name files have values in what clap found.
abbrev pub HasFiles : Found → Type 0
HasFiles found =
    (is_some (first_value found (codes "list")) ≡ true)
    × (is_some (first_value found (codes "stores")) ≡ true)
    × (is_some (first_value found (codes "out")) ≡ true)

-- Each option has the first value of its name in what clap found; the language has its default where there is none.
pub record HasValuesOf (rows : List Row) (options : Options) : Type 0 where
  pub list : first_of (codes "list") rows ≡ Some options.list.now
  pub stores : first_of (codes "stores") rows ≡ Some options.stores.now
  pub out : first_of (codes "out") rows ≡ Some options.out.now
  pub forms : (text : List ℕ) → one_of (codes "forms") rows ≡ Some text
      → IsNumeral 10 (without_leading_plus text)
      → digits_value 10 (without_leading_plus text) < 2 ^ 16
      → options.forms ≡ digits_value 10 (without_leading_plus text)
  pub lang : options.lang.now ≡ unwrap_or (first_of (codes "lang") rows) (codes "en-US")

-- ---- what the code adds

-- an option of this name, which excludes nothing
pub record IsOption (name : Text) (arg : Arg) : Type 0 where
  pub id : arg.id.now ≡ name
  pub plain : IsPlainArg arg
  pub local : arg.global ≡ false

-- one that must be given, with a value
pub record IsFile (name : Text) (arg : Arg) : Type 0 where
  pub option : IsOption name arg
  pub value : TakesValue arg
