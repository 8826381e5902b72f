-- Values of the rules of a package over stores.
use Rattle.std.specs.Prelude.{ℕ, Option, List}
use Rattle.ifr_expr.specs.code.RuleValues.{KnownValues, AreValues, kept_under}
use Rattle.ifr_nodes.specs.Nodes.{nodes_of}
use Rattle.ifr_nodes.specs.code.Rules.{rules_of}
use Rattle.hii_questions.specs.Answers.{answers}
use Rattle.hii_varstore.specs.Stores.{StoreMap}

-- What is kept under the number of a rule is the value of that rule over what the questions answer over these stores.
abbrev pub AreRuleValues : List ℕ → StoreMap → KnownValues → Type 0
AreRuleValues ifr stores values =
    AreValues (rules_of ifr) (answers (nodes_of ifr) stores) (kept_under values)
