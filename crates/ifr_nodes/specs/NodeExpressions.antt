-- The expressions of nodes: conditions of guards and questions, what rules and values say (UEFI 2.8, 33.3.8.3, under the name
-- of each).
use Rattle.std.specs.Prelude.{ℕ, ◌+◌, ◌==◌, if◌then◌else◌, Option, Some, None, List, length}
use Rattle.ifr_opcodes.specs.declared.codes.TheConstants.{INCONSISTENT_IF, NO_SUBMIT_IF}
use Rattle.ifr_opcodes.specs.Fields.{inconsistent_error, no_submit_error, warning_message}
use Rattle.ifr_opcodes.specs.Opcode.{number}
use Rattle.ifr_opcodes.specs.Forest.{Forest, none, node, Node}
use Rattle.ifr_expr.specs.Reading.{tree_in}
use Rattle.ifr_expr.specs.Trees.{Tree}
use Rattle.ifr_nodes.specs.Table.{wants_value}

-- the tree of the expression with which a node's scope begins
abbrev pub expression_tree : Node → Tree
expression_tree n = tree_in (n.place + length n.op) n.children

-- the tree of the VALUE with which a scope begins, whose first opcode stands at a place
abbrev pub tree_of_value : ℕ → Forest → Option Tree
tree_of_value place none = None
tree_of_value place (node op children rest) = Some (tree_in (place + length op) children)

-- the tree of a default that is the value of an expression
abbrev pub value_tree : Node → Option Tree
value_tree n = if wants_value n.op then tree_of_value (n.place + length n.op) n.children else None

-- the string id of the text that a question's condition tells where it holds: why it denies, or of what it warns
abbrev pub message : List ℕ → ℕ
message op =
    if number op == INCONSISTENT_IF then inconsistent_error op
    else if number op == NO_SUBMIT_IF then no_submit_error op
    else warning_message op
