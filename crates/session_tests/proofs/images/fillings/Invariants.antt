use Rattle.std.proofs.Common.{◌≡◌, ◌++◌, map}
use Rattle.std.specs.Prelude.{filter}
use Rattle.ifr_nodes.specs.Nodes.{nodes_of}
use Rattle.ifr_scopes.specs.code.Lists.{stores_left}
use Rattle.store_audit.specs.Fillings.{has_bytes, buffer_stores}
use Rattle.store_audit.specs.code.Fillings.{filling_node}
use Rattle.session_tests.proofs.images.fillings.Given as goal

-- the stores so far, and those that hold bytes of the stores that are left, are all
abbrev pub invariant-loop-store : goal.invariant-loop-store
invariant-loop-store l = record {
  can : goal.iterator-loop-store.can_next l.stores;
  ends : goal.iterator-loop-store.is_finite l.stores;
  found : map filling_node l.fillings.items ++ filter has_bytes (stores_left l.stores) ≡ buffer_stores (nodes_of l.declared);
}
