-- A guard by its place.
use Rattle.std.proofs.Common.{◌≡◌, ℕ, true, Option, List, ap, ◌∙◌}
use Rattle.std.proofs.lemmas.Bool.{and_parts}
use Rattle.ifr_opcodes.specs.Forest.{Node, node_at}
use Rattle.ifr_nodes.specs.Nodes.{nodes_of}
use Rattle.ifr_nodes.specs.code.Checked.{or_empty, node_in, has_guard}
use Rattle.ifr_nodes.proofs.PlaceLemmas.{found_place}
use Rattle.ifr_nodes.proofs.ViewLemmas.{some_there}

pub is_placed : (bytes : List ℕ) (place : ℕ) → has_guard bytes place ≡ true → (node_in bytes place).place ≡ place
unfolding node_in
is_placed bytes place is =
    let found = some_there (node_at (nodes_of bytes) place) (and_parts _ _ is).0 in
    ap (λ (o : Option Node). (or_empty o).place) found.1 ∙ found_place (nodes_of bytes) place found.0 found.1
