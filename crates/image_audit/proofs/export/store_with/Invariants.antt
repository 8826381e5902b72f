use Rattle.std.proofs.Common.{◌≡◌, length}
use Rattle.std.specs.Prelude.{◌==◌, filter}
use Rattle.std.specs.List.{find}
use Rattle.ifr_opcodes.specs.Forest.{Node}
use Rattle.ifr_nodes.specs.Nodes.{is_store, nodes_of}
use Rattle.ifr_scopes.specs.Stores.{store_id}
use Rattle.ifr_scopes.specs.code.Lists.{stores_left}
use Rattle.image_audit.proofs.export.store_with.Given as goal

-- the stores that were met have other ids
abbrev pub invariant-loop-store : goal.invariant-loop-store
invariant-loop-store l =
    let test = λ (n : Node). store_id n.op == l.id in
    find test (stores_left l.stores) ≡ find test (filter is_store (nodes_of l.forms))

abbrev pub decreases-loop-store : goal.decreases-loop-store
decreases-loop-store l = length (stores_left l.stores)
