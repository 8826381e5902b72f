-- Guards whose conditions name no question (own rule; UEFI 2.8, 33.2.5.7 Expressions).
use Rattle.std.specs.Prelude.{ℕ, Bool, ◌==◌, List, filter, length, map}
use Rattle.ifr_opcodes.specs.Forest.{Node}
use Rattle.ifr_expr.specs.Meaning.{value}
use Rattle.ifr_expr.specs.Values.{Value, holds, undefined}
use Rattle.ifr_nodes.specs.Guards.{guards_among}
use Rattle.ifr_nodes.specs.NodeExpressions.{expression_tree}
use Rattle.ifr_nodes.specs.Nodes.{this_of}
use Rattle.ifr_nodes.specs.Rules.{rules_among}
use Rattle.guard_policy.specs.Conditions.{condition_ids}
use Rattle.check_audit.specs.declared.warning.Oddity.TheVariants.{Constant}
use Rattle.check_audit.specs.declared.warning.Warning.{Warning}

-- The condition depends on no question, in the rules that it names neither.
abbrev pub is_constant : List Node → Node → Bool
is_constant ns g = length (condition_ids ns g) == 0

-- where no question is asked none answers
abbrev pub unasked : ℕ → Value
unasked id = undefined

abbrev pub holds_always : List Node → Node → Bool
holds_always ns g = holds (value (rules_among ns) unasked (this_of g) (expression_tree g))

abbrev pub constant_guards : List Node → List Node
constant_guards ns = filter (is_constant ns) (guards_among ns)

abbrev pub constant_at : List Node → Node → Warning
constant_at ns g = record { place = g.place; oddity = Constant (holds_always ns g) }

abbrev pub constant_warnings : List Node → List Warning
constant_warnings ns = map (constant_at ns) (constant_guards ns)
