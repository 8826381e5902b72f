-- The steps in which the commands are built, and what their rows say.
use Rattle.std.specs.Prelude.{◌++◌, Bool, List, Some, [], ◌∷◌, codes, false, map, not, pos, true}
use Rattle.clap.specs.Words.{App, Rule, Shape, Text, new_rule}
use Rattle.clap.specs.Simple.{new_shape}
use Rattle.clap.specs.declared.builder.ArgAction.TheVariants.{Append}
use Rattle.clap.specs.declared.builder.ValueParser.TheVariants.{Signed, Unsigned}
use Rattle.audit_options.specs.CommandLine.{command_of, flag, option, required_option}
use Rattle.audit_options.specs.declared.commands.CommandRow.{CommandRow}
use Rattle.audit_options.specs.declared.commands.OptionRow.{OptionRow}
use Rattle.audit_options.specs.declared.commands.Takes.{Takes}
use Rattle.audit_options.specs.declared.commands.Takes.TheVariants.{Nothing, Word, WantedWord, Words, ListNumber, PackageNumber, Class, Language}

-- the program without its commands
abbrev pub bare : App
bare = record {
  top = record (new_shape (codes "setup_audit")) { has_version = true; subcommand_required = true };
  subs = [];
}

-- a program with one more command
abbrev pub with_command : App → Shape → App
with_command app shape = record {
  top = record app.top { is_leaf = false };
  subs = app.subs ++ shape ∷ [];
}

abbrev pub has_none : List Shape → Bool
has_none [] = true
has_none (shape ∷ shapes) = false

-- the program with these commands
abbrev pub with_commands : List Shape → App
with_commands shapes = record {
  top = record bare.top { is_leaf = has_none shapes };
  subs = shapes;
}

-- a command with one more argument
abbrev pub with_argument : Shape → Rule → Shape
with_argument shape rule = record shape { rules = shape.rules ++ rule ∷ [] }

abbrev pub repeated_rule : Text → Rule
repeated_rule name = record (option name) { action = Some Append }

abbrev pub list_number_rule : Text → Rule
list_number_rule name = record (option name) { parser = Some (Unsigned 1 18446744073709551615) }

abbrev pub class_rule : Text → Rule
class_rule name = record (option name) { parser = Some (Signed (pos 0) (pos 65535)) }

abbrev pub language_rule : Bool → Text → Rule
language_rule takes_hyphen name = record (option name) {
  defaults = codes "en-US" ∷ [];
  is_simple = not takes_hyphen;
}

abbrev pub package_number_rule : Text → Rule
package_number_rule name = record (new_rule name) {
  long = Some name;
  value_names = 1;
  defaults = codes "1" ∷ [];
  parser = Some (Signed (pos 1) (pos 65535));
}

abbrev pub rule_taking : Bool → Text → Takes → Rule
rule_taking takes_hyphen name Nothing = flag name
rule_taking takes_hyphen name Word = option name
rule_taking takes_hyphen name WantedWord = required_option name
rule_taking takes_hyphen name Words = repeated_rule name
rule_taking takes_hyphen name ListNumber = list_number_rule name
rule_taking takes_hyphen name PackageNumber = package_number_rule name
rule_taking takes_hyphen name Class = class_rule name
rule_taking takes_hyphen name Language = language_rule takes_hyphen name

-- the rule of an option
abbrev pub row_rule : Bool → OptionRow → Rule
row_rule takes_hyphen row = rule_taking takes_hyphen row.name.now row.takes

-- the shape of a command
abbrev pub row_shape : Bool → CommandRow → Shape
row_shape takes_hyphen row =
    command_of row.name.now (map (row_rule takes_hyphen) row.options.now)
