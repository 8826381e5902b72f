-- What the views of a package stand for.
use Rattle.std.specs.Prelude.{List, map}
use Rattle.ifr_opcodes.specs.Forest.{Node as Placed}
use Rattle.ifr_nodes.specs.code.Checked.{node_in}
use Rattle.ifr_nodes.specs.code.Visits.{left}
use Rattle.ifr_nodes.specs.declared.node.Node.{Node}
use Rattle.ifr_nodes.specs.declared.nodes.Nodes.{Nodes}

abbrev pub node_of : Node → Placed
node_of view = node_in view.ifr.now view.op.place

-- the nodes that are left of an iterator
abbrev pub nodes_left : Nodes → List Placed
nodes_left it = map (λ n. node_in it.walk.bytes.now n.place) (left it.walk)
