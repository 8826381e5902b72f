-- What a condition of a package stands for.
use Rattle.ifr_opcodes.specs.Forest.{Node}
use Rattle.ifr_scopes.specs.code.Lists.{guard_node}
use Rattle.ifr_scopes.specs.code.Parts.{condition_node}
use Rattle.ifr_scopes.specs.declared.any_condition.AnyCondition.{AnyCondition}
use Rattle.ifr_scopes.specs.declared.any_condition.AnyCondition.TheVariants as condition

-- a condition as a node
abbrev pub any_condition_node : AnyCondition → Node
any_condition_node (condition.Guard guard) = guard_node guard
any_condition_node (condition.Question view) = condition_node view
