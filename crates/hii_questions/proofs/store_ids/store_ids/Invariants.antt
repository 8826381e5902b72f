use Rattle.std.proofs.Common.{◌≡◌, ◌||◌, ◌==◌, ℕ}
use Rattle.hii_bytes.specs.code.NumberSets.{has_number}
use Rattle.std.specs.List.{list_any}
use Rattle.ifr_scopes.specs.code.Lists.{stores_left}
use Rattle.ifr_nodes.specs.Nodes.{nodes_of}
use Rattle.ifr_scopes.specs.Stores.{store_id}
use Rattle.hii_questions.specs.Faults.{is_known}
use Rattle.hii_questions.proofs.store_ids.store_ids.Given as goal

-- the ids so far, and those of the stores that are left, are all
abbrev pub invariant-loop-store : goal.invariant-loop-store
invariant-loop-store l = record {
  can : goal.iterator-loop-store.can_next l.store-iterator;
  ends : goal.iterator-loop-store.is_finite l.store-iterator;
  known : (id : ℕ) → has_number l.ids id || list_any (λ s. store_id s.op == id) (stores_left l.store-iterator) ≡ is_known (nodes_of l.forms) id;
}
