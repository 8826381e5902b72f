-- A package whose framing and nodes were checked, and the nodes at its places (own rule).
use Rattle.std.specs.Prelude.{ℕ, ◌≤◌, ◌<◌, ◌^◌, List, length}
use Rattle.hii_bytes.specs.Faults.{HasNone}
use Rattle.ifr_opcodes.specs.Forest.{SpellsForest}
use Rattle.ifr_opcodes.specs.Reading.{tree_of}
use Rattle.ifr_nodes.specs.Nodes.{nodes_of}
use Rattle.ifr_nodes.specs.Structure.{IsStructureFault}

-- The package spells a forest, and no node of it has a fault by itself, nor an expression.
pub record IsChecked (bytes : List ℕ) : Type 0 where
  pub header : 4 ≤ length bytes
  pub small : length bytes < 2 ^ 32
  pub spelled : SpellsForest bytes (tree_of bytes)
  pub sound : HasNone (IsStructureFault (nodes_of bytes))
