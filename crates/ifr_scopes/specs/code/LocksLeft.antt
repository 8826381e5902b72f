-- What the iterator over the LOCKED of a node has before it.
use Rattle.std.specs.Prelude.{ℕ, Option, Some, None, List, [], ◌++◌, drop, filter}
use Rattle.std.specs.List.{flat_map}
use Rattle.ifr_opcodes.specs.Forest.{Node}
use Rattle.ifr_nodes.specs.Locks.{locks_scope, locked_in}
use Rattle.ifr_nodes.specs.Nodes.{nodes_of}
use Rattle.ifr_nodes.specs.code.Views.{node_of}
use Rattle.ifr_nodes.specs.code.Visits.{left}
use Rattle.ifr_scopes.specs.declared.locks.LockView.{LockView}
use Rattle.ifr_scopes.specs.declared.locks.Locks.{Locks}

abbrev pub lock_node : LockView → Node
lock_node lock = node_of lock.node

-- the LOCKED of the scope that is looked through
abbrev pub in_scope : Option ℕ → List Node → List Node
in_scope None ns = []
in_scope (Some place) ns = filter (locks_scope place) ns

-- and of the scopes behind it
abbrev pub locks_left : Locks → List Node
locks_left it =
    in_scope it.scope (left it.nodes.walk)
    ++ flat_map (locked_in (nodes_of it.ifr.now)) (drop it.next it.chain.items)
