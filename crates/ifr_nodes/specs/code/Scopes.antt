-- The places of nodes of which each stands in the scope of the one before it.
use Rattle.std.specs.Prelude.{◌≡◌, ◌<◌, ℕ, true, List, length, map, take, slice_index}
use Rattle.ifr_opcodes.specs.Forest.{as_ancestor}
use Rattle.ifr_opcodes.specs.code.Marks.{ancestor_at}
use Rattle.ifr_nodes.specs.code.Checked.{node_in, has_node}

-- A node stands at a place of the package, and its path are the nodes at the places before.
pub record IsScope (bytes before : List ℕ) (place : ℕ) : Type 0 where
  pub there : has_node bytes place ≡ true
  pub is : as_ancestor (node_in bytes place) ≡ ancestor_at bytes place
  pub path : (node_in bytes place).path ≡ map (ancestor_at bytes) before

abbrev pub AreScopes : List ℕ → List ℕ → Type 0
AreScopes bytes places =
    (i : ℕ) → i < length places → IsScope bytes (take i places) (slice_index places i)
