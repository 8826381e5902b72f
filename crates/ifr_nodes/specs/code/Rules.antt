-- The rules of a package, and those that are not too large.
use Rattle.std.specs.Prelude.{ℕ, if◌then◌else◌, Option, Some, None, List}
use Rattle.ifr_expr.specs.Meaning.{Rule}
use Rattle.ifr_nodes.specs.Nodes.{nodes_of}
use Rattle.ifr_nodes.specs.declared.rules.RuleSize.{RuleSize}
use Rattle.ifr_nodes.specs.Rules.{rules_among, is_rule_too_large}

abbrev pub rules_of : List ℕ → List Rule
rules_of bytes = rules_among (nodes_of bytes)

abbrev pub fitting_size : RuleSize → Option RuleSize
fitting_size s = if is_rule_too_large s then None else Some s
