-- Commands that give no question a value.
use Rattle.std.proofs.Common.{◌≡◌, ℕ, ℤ, List, [], refl}
use Rattle.std.specs.Borrow.{Bor}
use Rattle.hii_commands.specs.Meaning.{command_meant}
use Rattle.hii_commands.specs.declared.command.Command.{Command}
use Rattle.hii_commands.specs.declared.command.Command.TheVariants.{Page, Set, Order, Text, Why, Go, Back, Press, Defaults, Extract, Route, Lang, Submit, Discard}
use Rattle.audit_json.specs.declared.telling.Telling.{Telling}
use Rattle.script_audit.specs.Values.{Seen}
use Rattle.script_audit.specs.Walk.{warnings_behind}

pub no_warnings : (t : Telling) (n : ℕ) (a : Seen) (command : Command) → ((q : ℕ) (z : ℤ) → command ≡ Set q z → ⊥) → ((q : ℕ) (list : Bor (List ℕ)) → command ≡ Order q list → ⊥)
    → ((q : ℕ) (text : Bor (List ℕ)) → command ≡ Text q text → ⊥) → warnings_behind t n a (command_meant command) ≡ []
no_warnings t n a Page h i j = refl
no_warnings t n a (Set q z) h i j = absurd (h q z refl)
no_warnings t n a (Order q list) h i j = absurd (i q list refl)
no_warnings t n a (Text q text) h i j = absurd (j q text refl)
no_warnings t n a (Why q) h i j = refl
no_warnings t n a (Go q) h i j = refl
no_warnings t n a Back h i j = refl
no_warnings t n a (Press row) h i j = refl
no_warnings t n a (Defaults class) h i j = refl
no_warnings t n a (Extract text) h i j = refl
no_warnings t n a (Route text) h i j = refl
no_warnings t n a (Lang language) h i j = refl
no_warnings t n a Submit h i j = refl
no_warnings t n a Discard h i j = refl
