-- What the iterators over a question's scope have before them.
use Rattle.std.specs.Prelude.{ℕ, Bool, ◌&&◌, List, [], ◌∷◌}
use Rattle.ifr_opcodes.specs.declared.codes.TheConstants.{INCONSISTENT_IF, NO_SUBMIT_IF, WARNING_IF}
use Rattle.ifr_opcodes.specs.declared.op.Op.{Op}
use Rattle.ifr_opcodes.specs.Forest.{Node}
use Rattle.ifr_nodes.specs.Nodes.{is_option}
use Rattle.ifr_nodes.specs.code.Checked.{has_node, node_in}
use Rattle.ifr_nodes.specs.code.Views.{node_of}
use Rattle.ifr_scopes.specs.declared.condition_view.ConditionOp.{ConditionOp}
use Rattle.ifr_scopes.specs.declared.condition_view.ConditionOp.TheVariants as condition
use Rattle.ifr_scopes.specs.declared.condition_view.ConditionView.{ConditionView}
use Rattle.ifr_scopes.specs.declared.condition_view.ConditionViews.{ConditionViews}
pub use Rattle.ifr_nodes.specs.code.PartsLeft.{parts_left}
use Rattle.ifr_scopes.specs.declared.option_view.OptionView.{OptionView}
use Rattle.ifr_scopes.specs.declared.option_view.Options.{Options}
use Rattle.ifr_scopes.specs.declared.default_view.DefaultView.{DefaultView}
use Rattle.ifr_scopes.specs.declared.default_view.Defaults.{Defaults}

abbrev pub option_node : OptionView → Node
option_node option = node_of option.node

-- an option stands at this place of the package
abbrev pub has_option : List ℕ → ℕ → Bool
has_option bytes place = has_node bytes place && is_option (node_in bytes place)

abbrev pub option_package : OptionView → List ℕ
option_package option = option.node.ifr.now

abbrev pub options_left : Options → List Node
options_left it = parts_left it.nodes

abbrev pub default_node : DefaultView → Node
default_node default = node_of default.node

abbrev pub defaults_left : Defaults → List Node
defaults_left it = parts_left it.nodes

-- the numbers of the conditions that have a view
abbrev pub condition_numbers : List ℕ
condition_numbers = INCONSISTENT_IF ∷ NO_SUBMIT_IF ∷ WARNING_IF ∷ []

-- the opcode of a condition
abbrev pub condition_op : ConditionOp → Op
condition_op (condition.InconsistentIf view) = view.op
condition_op (condition.NoSubmitIf view) = view.op
condition_op (condition.WarningIf view) = view.op

abbrev pub condition_node : ConditionView → Node
condition_node condition = node_of condition.node

abbrev pub condition_package : ConditionView → List ℕ
condition_package condition = condition.node.ifr.now

abbrev pub conditions_left : ConditionViews → List Node
conditions_left it = parts_left it.nodes
