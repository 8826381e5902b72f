-- Stores that are found by their ids.
use Rattle.std.specs.Prelude.{◌≡◌, ℕ, ◌==◌, List, map}
use Rattle.std.specs.List.{find}
use Rattle.std.specs.List.Sorted.{IsSortedByKey}
use Rattle.std.specs.Ordering.{nat_cmp}
use Rattle.ifr_nodes.specs.Nodes.{nodes_of}
use Rattle.ifr_scopes.specs.Stores.{store_id}
use Rattle.ifr_scopes.specs.code.Lists.{store_node}
use Rattle.ifr_scopes.specs.declared.varstore.Varstore.{Varstore}
use Rattle.question_audit.specs.QuestionLines.{store_with}

abbrev pub id_of : Varstore → ℕ
id_of store = store_id (store_node store).op

-- The ids of the stores rise, and of each id the first is that of the package.
pub record AreStoresOf (bytes : List ℕ) (stores : List Varstore) : Type 0 where
  pub sorted : IsSortedByKey id_of nat_cmp stores
  pub first : (id : ℕ) → find (λ n. store_id n.op == id) (map store_node stores)
      ≡ store_with (nodes_of bytes) id
