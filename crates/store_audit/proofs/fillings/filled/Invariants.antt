use Rattle.std.proofs.Common.{◌≡◌}
use Rattle.ifr_nodes.specs.Nodes.{nodes_of}
use Rattle.hii_varstore.specs.StoreNodes.{layout_of}
use Rattle.store_audit.proofs.FillingLemmas.{filled_up_to}
use Rattle.store_audit.proofs.fillings.filled.Given as goal

-- the stores so far are filled, and the others hold zeros
abbrev pub invariant-loop-filling : goal.invariant-loop-filling
invariant-loop-filling l =
    l.stores ≡ record { guid = (layout_of (nodes_of l.declared)).guid; stores = filled_up_to l.filling-index l.fillings }
