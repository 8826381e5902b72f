-- Commands that are built up of arguments and of subcommands.
use Rattle.std.proofs.Common.{◌≡◌, ◌∙◌, ◌&&◌, ◌∷◌, ◌++◌, ◌+◌, ◌<◌, ◌≤◌, ℕ, Bool, List, true, false, not, [], ap, ap₂, get_or, length, map, refl, is_some, take, append_assoc}
use Rattle.std.proofs.lemmas.List.{map-append, take_all, take_more}
use Rattle.std.specs.Borrow.{Bor}
use Rattle.clap.specs.Built.{AddsArg, AddsSubcommand}
use Rattle.clap.specs.Simple.{App, Shape, with_rule, with_subcommand}
use Rattle.clap.specs.Walk.{Rule, Text, is_empty, is_simple_arg}
use Rattle.clap.specs.declared.builder.arg.Arg.{Arg}
use Rattle.clap.specs.declared.builder.command.Command.{Command}
use Rattle.clap.specs.declared.builder.texts.Texts.TheVariants.{One}
use Rattle.audit_options.specs.CommandLine.{IsArg, IsCommand, IsProgram, command_of}
use Rattle.audit_options.specs.code.Building.{row_rule, row_shape, with_argument, with_command, with_commands}
use Rattle.audit_options.specs.declared.commands.CommandRow.{CommandRow}
use Rattle.audit_options.specs.declared.commands.OptionRow.{OptionRow}

pub argument_added : (shape : Shape) (rule : Rule) (old : Command) (arg : Arg) (new : Command) → IsCommand shape old → IsArg rule arg → AddsArg old arg new
    → IsCommand (with_argument shape rule) new
argument_added shape rule old arg new command option adds = record {
  read_as = adds.shape option.local ∙ ap₂ with_rule command.read_as option.read_by;
  local = rw (adds.globals, command.local, option.local) refl;
}

pub command_added : (app : App) (shape : Shape) (old sub new : Command) → IsProgram app old → IsCommand shape sub → AddsSubcommand old sub new
    → IsProgram (with_command app shape) new
command_added app shape old sub new program command adds = record {
  read_as = adds.shape command.local ∙ ap₂ with_subcommand program.read_as (ap (λ (a : App). a.top) command.read_as);
  local = rw (adds.globals, program.local, command.local) refl;
}

-- ---- the rows so far

-- one more option
pub option_added : (t : Bool) (name : Text) (options : List OptionRow) (i : ℕ) (d : OptionRow) (old : Command) (arg : Arg) (new : Command)
    → IsCommand (command_of name (map (row_rule t) (take i options))) old → i < length options → IsArg (row_rule t (get_or options i d)) arg → AddsArg old arg new
    → IsCommand (command_of name (map (row_rule t) (take (i + 1) options))) new
option_added t name options i d old arg new command within option adds =
    rw (take_more options i d within, map-append (row_rule t) (take i options) (get_or options i d ∷ []))
    (argument_added (command_of name (map (row_rule t) (take i options))) (row_rule t (get_or options i d)) old arg new command option adds)

pub all_options : (t : Bool) (name : Text) (options : List OptionRow) (i : ℕ) (command : Command) → length options ≤ i
    → IsCommand (command_of name (map (row_rule t) (take i options))) command → IsCommand (command_of name (map (row_rule t) options)) command
all_options t name options i command past is = rw (take_all i options past) at is

more_commands : (shapes : List Shape) (shape : Shape) → with_commands (shapes ++ shape ∷ []) ≡ with_command (with_commands shapes) shape
more_commands [] shape = refl
more_commands (s ∷ shapes) shape = refl

-- one more command
pub row_added : (t : Bool) (others : List Shape) (rows : List CommandRow) (i : ℕ) (d : CommandRow) (old sub new : Command)
    → IsProgram (with_commands (others ++ map (row_shape t) (take i rows))) old → i < length rows → IsCommand (row_shape t (get_or rows i d)) sub → AddsSubcommand old sub new
    → IsProgram (with_commands (others ++ map (row_shape t) (take (i + 1) rows))) new
row_added t others rows i d old sub new program within command adds =
    let shape = row_shape t (get_or rows i d) in
    let front = map (row_shape t) (take i rows) in
    rw (take_more rows i d within, map-append (row_shape t) (take i rows) (get_or rows i d ∷ []), ← append_assoc others front (shape ∷ []), more_commands (others ++ front) shape)
    (command_added (with_commands (others ++ front)) shape old sub new program command adds)

pub all_rows : (t : Bool) (others : List Shape) (rows : List CommandRow) (i : ℕ) (command : Command) → length rows ≤ i
    → IsProgram (with_commands (others ++ map (row_shape t) (take i rows))) command → IsProgram (with_commands (others ++ map (row_shape t) rows)) command
all_rows t others rows i command past is = rw (take_all i rows past) at is

-- ---- an argument whose value may begin with a hyphen

under : (p x y z : Bool) → (p && x) ≡ true → (x ≡ true → y ≡ z) → (p && y) ≡ z
under true x y z both then = then both
under false x y z both then = let bad : false ≡ true = both in cc

behind : (h q t : Bool) → (h && q) ≡ true → (not t && q) ≡ not t
behind true q true both = refl
behind true q false both = both
behind false q t both = let bad : false ≡ true = both in cc

conjunction : (p o n m l h q t : Bool) → (p && (o && (n && (m && (l && (h && q)))))) ≡ true → (p && (o && (n && (m && (l && (not t && q)))))) ≡ not t
conjunction p o n m l h q t all =
    under p (o && (n && (m && (l && (h && q))))) (o && (n && (m && (l && (not t && q))))) (not t) all
    (λ a. under o (n && (m && (l && (h && q)))) (n && (m && (l && (not t && q)))) (not t) a
    (λ b. under n (m && (l && (h && q))) (m && (l && (not t && q))) (not t) b
    (λ c. under m (l && (h && q)) (l && (not t && q)) (not t) c (λ d. under l (h && q) (not t && q) (not t) d (λ e. behind h q t e)))))

simple_unless : (a : Arg) (t : Bool) → is_simple_arg a ≡ true → is_simple_arg (record a { allow_hyphen_values = t }) ≡ not t
simple_unless a t simple =
    conjunction (is_empty a.overrides.items) (is_empty a.default_vals_ifs.items) (is_empty a.groups.items) (not (is_some a.val_delim)) (not (is_some a.terminator)) (not a.allow_hyphen_values)
    (not a.allow_negative_numbers && (not a.require_equals && (not a.last && not a.global))) t simple

-- an option with a default, whose value may begin with a hyphen or not
pub with_hyphen : (rule : Rule) (arg : Arg) (t : Bool) (value : Bor Text) → IsArg rule arg → rule.is_simple ≡ true
    → IsArg (record rule { defaults = value.now ∷ []; is_simple = not t }) (record arg { allow_hyphen_values = t; default_vals = One value })
with_hyphen rule arg t value is simple = record {
  read_by = ap₂ (λ (r : Rule) (s : Bool). record r { defaults = value.now ∷ []; is_simple = s }) is.read_by (simple_unless arg t (ap (λ (r : Rule). r.is_simple) is.read_by ∙ simple));
  local = is.local;
}
