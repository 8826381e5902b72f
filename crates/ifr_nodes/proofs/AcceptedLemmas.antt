-- A package that is accepted has no fault.
use Rattle.std.proofs.Common.{ℕ, List}
use Rattle.hii_bytes.specs.Faults.{HasNone, Then}
use Rattle.hii_bytes.proofs.FaultLemmas.{then_none}
use Rattle.ifr_opcodes.specs.Reading.{tree_of}
use Rattle.ifr_nodes.specs.Accepted.{IsAccepted, IsPackageFault}
use Rattle.ifr_nodes.specs.Framing.{IsFramingFault}
use Rattle.ifr_nodes.specs.Structure.{IsStructureFault}
use Rattle.ifr_nodes.specs.ReferenceFaults.{IsReferenceFault}
use Rattle.ifr_nodes.specs.Nodes.{nodes_of}
use Rattle.ifr_nodes.proofs.RunLemmas.{none_where_spelled}

pub accepted_no_fault : (ifr : List ℕ) → IsAccepted ifr → HasNone (IsPackageFault ifr)
accepted_no_fault ifr a =
    then_none (IsFramingFault ifr) (Then (IsStructureFault (nodes_of ifr)) (IsReferenceFault (nodes_of ifr))) (none_where_spelled ifr (tree_of ifr) a.checked.spelled)
    (then_none (IsStructureFault (nodes_of ifr)) (IsReferenceFault (nodes_of ifr)) a.checked.sound a.referred)
