-- Where the expression of a node ends.
use Rattle.std.specs.Prelude.{ℕ, ◌+◌, length}
use Rattle.ifr_opcodes.specs.Forest.{Forest, none, node, flat, Node}

-- where the first node of a forest ends that stands at a place
abbrev pub first_end : ℕ → Forest → ℕ
first_end place none = place
first_end place (node op children rest) = place + length (flat (node op children none))

-- where the expression ends with which a node's scope begins, in bytes from the package's header
unfoldable pub expression_end : Node → ℕ
expression_end n = first_end (n.place + length n.op) n.children
