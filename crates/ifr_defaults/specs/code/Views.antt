-- What the values of the code stand for.
use Rattle.std.specs.Prelude.{ℕ, Option, List}
use Rattle.ifr_expr.specs.Values.{Value}
use Rattle.ifr_nodes.specs.code.Rules.{rules_of}
use Rattle.browser_rules.specs.Strings.{Spoken, text_of}
use Rattle.ifr_defaults.specs.Defaults.{Sources}

-- the rules of a forms package, what questions answer, and the texts of string packages of which one is chosen
abbrev pub sources_of : List ℕ → (ℕ → Value) → List Spoken → Option ℕ → Sources
sources_of forms answers languages choice = record {
  rules = rules_of forms;
  answers = answers;
  texts = text_of languages choice;
}
