-- The commands of `setup_audit` and their options, as clap reads them (own rule).
use Rattle.std.specs.Prelude.{◌≡◌, ◌==◌, ◌&&◌, ◌||◌, Bool, true, false, not, pos, Some, List, [], ◌∷◌, ◌++◌, codes}
use Rattle.std.specs.Str.{bytes_eq}
use Rattle.clap.specs.Words.{App, Rule, Shape, Text, app_of, new_rule, rule_of}
use Rattle.clap.specs.Simple.{new_shape}
use Rattle.clap.specs.declared.builder.ArgAction.TheVariants.{Append, Set, SetTrue}
use Rattle.clap.specs.declared.builder.ValueParser.TheVariants.{Signed, Unsigned}
use Rattle.clap.specs.declared.builder.arg.Arg.{Arg}
use Rattle.clap.specs.declared.builder.command.Command.{Command}
use Rattle.clap.specs.declared.builder.command.Command.TheViews.{out-Command as fields_of}

-- ---- the word behind `--lang`

abbrev pub begins_with_hyphen : Text → Bool
begins_with_hyphen [] = false
begins_with_hyphen (c ∷ cs) = c == 45

-- whether a word that begins with a hyphen stands behind `--lang`; the first may stand there itself
abbrev pub has_hyphen_behind : Bool → List Text → Bool
has_hyphen_behind is_behind [] = false
has_hyphen_behind is_behind (word ∷ words) =
    (is_behind && begins_with_hyphen word)
    || has_hyphen_behind (bytes_eq word (codes "--lang")) words

abbrev pub has_hyphen_language : List Text → Bool
has_hyphen_language words = has_hyphen_behind false words

-- ---- options

-- an option with a value
abbrev pub option : Text → Rule
option name = record (new_rule name) { long = Some name; action = Some Set; value_names = 1 }

abbrev pub required_option : Text → Rule
required_option name = record (option name) { required = true }

abbrev pub list : Rule
list = required_option (codes "list")

abbrev pub dump : Rule
dump = required_option (codes "dump")

abbrev pub stores_image : Rule
stores_image = required_option (codes "stores")

abbrev pub forms : Rule
forms = record (new_rule (codes "forms")) {
  long = Some (codes "forms");
  value_names = 1;
  defaults = codes "1" ∷ [];
  parser = Some (Signed (pos 1) (pos 65535));
}

-- its value may begin with a hyphen or not
abbrev pub lang : Bool → Rule
lang takes_hyphen = record (option (codes "lang")) {
  defaults = codes "en-US" ∷ [];
  is_simple = not takes_hyphen;
}

abbrev pub take : Rule
take = record (option (codes "take")) { parser = Some (Unsigned 1 18446744073709551615) }

-- a class of defaults
abbrev pub defaults : Rule
defaults = record (option (codes "defaults")) { parser = Some (Signed (pos 0) (pos 65535)) }

abbrev pub store : Rule
store = record (option (codes "store")) { action = Some Append }

-- an option without a value
abbrev pub flag : Text → Rule
flag name = record (new_rule name) { long = Some name; action = Some SetTrue }

abbrev pub json : Rule
json = flag (codes "json")

abbrev pub efivars : Rule
efivars = option (codes "efivars")

abbrev pub config : Rule
config = option (codes "config")

abbrev pub zero : Rule
zero = flag (codes "zero")

-- ---- commands

abbrev pub command_of : Text → List Rule → Shape
command_of name rules = record (new_shape name) { rules = rules }

abbrev pub split : Shape
split = command_of (codes "split")
    (dump ∷ take ∷ option (codes "out") ∷ json ∷ [])

abbrev pub stores : Shape
stores = command_of (codes "stores") (list ∷ take ∷ flag (codes "headers") ∷ json ∷ forms ∷ [])

abbrev pub check : Shape
check = command_of (codes "check") (list ∷ take ∷ json ∷ [])

abbrev pub opcodes : Shape
opcodes = command_of (codes "opcodes") (list ∷ take ∷ json ∷ forms ∷ [])

abbrev pub image : Bool → Shape
image takes_hyphen = command_of (codes "image")
    (list ∷ take ∷ required_option (codes "out") ∷ store ∷ efivars
    ∷ config ∷ zero ∷ defaults ∷ json ∷ forms ∷ lang takes_hyphen ∷ [])

abbrev pub questions : Bool → Shape
questions takes_hyphen = command_of (codes "questions")
    (list ∷ take ∷ stores_image ∷ json ∷ forms ∷ lang takes_hyphen ∷ [])

abbrev pub question : Bool → Shape
question takes_hyphen = command_of (codes "question")
    (list ∷ take ∷ stores_image ∷ required_option (codes "id") ∷ json ∷ forms ∷ lang takes_hyphen ∷ [])

abbrev pub unlock : Bool → Shape
unlock takes_hyphen = command_of (codes "unlock")
    (list ∷ take ∷ stores_image ∷ option (codes "id") ∷ json ∷ forms ∷ lang takes_hyphen ∷ [])

abbrev pub apply : Bool → Shape
apply takes_hyphen = command_of (codes "apply")
    (list ∷ take ∷ stores_image ∷ required_option (codes "script") ∷ required_option (codes "out")
    ∷ json ∷ forms ∷ lang takes_hyphen ∷ [])

abbrev pub export : Shape
export = command_of (codes "export")
    (list ∷ take ∷ stores_image ∷ option (codes "id") ∷ option (codes "out")
    ∷ flag (codes "lines") ∷ option (codes "with") ∷ json ∷ forms ∷ [])

abbrev pub diff : Bool → Shape
diff takes_hyphen = command_of (codes "diff")
    (list ∷ take ∷ stores_image ∷ required_option (codes "with") ∷ json ∷ forms ∷ lang takes_hyphen ∷ [])

abbrev pub report : Bool → Shape
report takes_hyphen = command_of (codes "report")
    (list ∷ take ∷ stores_image ∷ required_option (codes "out") ∷ forms ∷ lang takes_hyphen ∷ [])

abbrev pub survey : Bool → Shape
survey takes_hyphen = command_of (codes "survey")
    (dump ∷ efivars ∷ config ∷ zero ∷ option (codes "find") ∷ json ∷ lang takes_hyphen ∷ [])

-- where a language may begin with a hyphen or not: the commands on lists and what their stores are to hold, and those on form sets and
-- what their stores hold
abbrev pub list_commands : Bool → List Shape
list_commands takes_hyphen = split ∷ stores ∷ check ∷ opcodes ∷ image takes_hyphen ∷ []

abbrev pub form_set_commands : Bool → List Shape
form_set_commands takes_hyphen =
    questions takes_hyphen ∷ question takes_hyphen ∷ unlock takes_hyphen ∷ apply takes_hyphen ∷ export
    ∷ diff takes_hyphen ∷ report takes_hyphen ∷ survey takes_hyphen ∷ []

-- all of it
abbrev pub program : Bool → App
program takes_hyphen = record {
  top = record (new_shape (codes "setup_audit")) {
    is_leaf = false;
    has_version = true;
    subcommand_required = true;
  };
  subs = list_commands takes_hyphen ++ form_set_commands takes_hyphen;
}

-- ---- what is built

-- This argument is read by the rule.
pub record IsArg (rule : Rule) (arg : Arg) : Type 0 where
  pub read_by : rule_of arg ≡ rule
  pub local : arg.global ≡ false

pub record IsProgram (app : App) (command : Command) : Type 0 where
  pub read_as : app_of command ≡ app
  pub local : (fields_of command).has_globals ≡ false

-- This command has no subcommand, and this shape.
abbrev pub IsCommand : Shape → Command → Type 0
IsCommand shape command = IsProgram record { top = shape; subs = [] } command
