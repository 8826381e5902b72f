-- What the iterator over the nodes of a number in a question's scope has before it.
use Rattle.std.specs.Prelude.{◌≡◌, ℕ, ◌==◌, if◌then◌else◌, All, List, [], filter}
use Rattle.std.proofs.Props.{props}
use Rattle.ifr_opcodes.specs.Opcode.{number}
use Rattle.ifr_opcodes.specs.Forest.{Node}
use Rattle.ifr_nodes.specs.Nodes.{this_of}
use Rattle.ifr_nodes.specs.code.Views.{nodes_left}
use Rattle.ifr_nodes.specs.declared.nodes_of.NodesOf.{NodesOf}

abbrev pub parts_left : NodesOf → List Node
parts_left it =
    if it.question then filter (λ n. number n.op == it.code) (nodes_left it.nodes) else []

-- The nodes stand in the scope of the question of this id.
abbrev pub HaveThis : ℕ → List Node → Type 0
HaveThis this ns = All (λ n. this_of n ≡ this) ns

pub HaveThis-prop : (this : ℕ) (ns : List Node) → IsProp (HaveThis this ns)
HaveThis-prop this ns = hlevel props
