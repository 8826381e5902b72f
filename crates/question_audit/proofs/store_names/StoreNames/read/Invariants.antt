use Rattle.std.proofs.Common.{◌≡◌, ◌++◌, map}
use Rattle.std.specs.Prelude.{filter}
use Rattle.ifr_nodes.specs.Nodes.{nodes_of, is_store}
use Rattle.ifr_scopes.specs.code.Lists.{store_node, stores_left}
use Rattle.question_audit.proofs.store_names.StoreNames.read.Given as goal

-- the stores so far, and those that are left, are all
abbrev pub invariant-loop-store : goal.invariant-loop-store
invariant-loop-store l = record {
  can : goal.iterator-loop-store.can_next l.store-iterator;
  ends : goal.iterator-loop-store.is_finite l.store-iterator;
  found : map store_node l.stores.items ++ stores_left l.store-iterator ≡ filter is_store (nodes_of l.forms);
}
