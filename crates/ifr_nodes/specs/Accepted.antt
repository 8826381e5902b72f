-- A forms package that is read, and the faults of one that is not (own rule).
use Rattle.std.specs.Prelude.{ℕ, List}
use Rattle.hii_bytes.specs.Faults.{HasNone, Then}
use Rattle.hii_bytes.specs.declared.cause.Cause.{Cause}
use Rattle.ifr_nodes.specs.Framing.{IsFramingFault}
use Rattle.ifr_nodes.specs.Structure.{IsStructureFault}
use Rattle.ifr_nodes.specs.ReferenceFaults.{IsReferenceFault}
use Rattle.ifr_nodes.specs.Checked.{IsChecked}
use Rattle.ifr_nodes.specs.Nodes.{nodes_of}

-- The faults of the framing, of each node by itself or an expression, and of nodes among each other: each part has some only
-- where those before it have none.
abbrev pub IsPackageFault : List ℕ → Cause → ℕ → Type 0
IsPackageFault bytes =
    Then (IsFramingFault bytes)
    (Then (IsStructureFault (nodes_of bytes)) (IsReferenceFault (nodes_of bytes)))

-- The package spells a forest whose nodes have no fault.
pub record IsAccepted (bytes : List ℕ) : Type 0 where
  pub checked : IsChecked bytes
  pub referred : HasNone (IsReferenceFault (nodes_of bytes))
