-- The scopes around the node that was met last.
use Rattle.std.specs.Prelude.{◌≡◌, ◌≤◌, length, map, take}
use Rattle.ifr_opcodes.specs.code.Marks.{ancestor_at}
use Rattle.ifr_nodes.specs.code.Views.{node_of}
use Rattle.ifr_nodes.specs.declared.scoped_nodes.ScopedNode.{ScopedNode}
use Rattle.ifr_nodes.specs.declared.scoped_nodes.ScopedNodes.{ScopedNodes}

pub record IsAround (it : ScopedNodes) (met : ScopedNode) : Type 0 where
  pub of_package : met.node.ifr.now ≡ it.walk.bytes.now
  pub within : met.depth ≤ length it.walk.around.items
  pub path : (node_of met.node).path
      ≡ map (ancestor_at it.walk.bytes.now) (take met.depth it.walk.around.items)
