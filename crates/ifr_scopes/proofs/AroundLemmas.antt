-- The guards that are kept for one node are those around it.
use Rattle.std.proofs.Common.{◌≡◌, ℕ, true, List, sym, ap, subst}
use Rattle.ifr_opcodes.specs.Forest.{Node, node_at, SpellsForest}
use Rattle.ifr_opcodes.specs.Reading.{tree_of}
use Rattle.ifr_nodes.specs.Guards.{guards as guards_of_node}
use Rattle.ifr_nodes.specs.code.Kept.{kept_guards}
use Rattle.ifr_nodes.specs.Nodes.{nodes_of}
use Rattle.ifr_nodes.specs.code.Checked.{or_empty, node_in, has_node}
use Rattle.ifr_nodes.specs.declared.guard_place.GuardPlace.{GuardPlace}
use Rattle.ifr_nodes.proofs.ViewLemmas.{some_there, contains_found}
use Rattle.ifr_index.proofs.PathLemmas.{Keeps, keeps}

pub around : (bytes : List ℕ) (place : ℕ) (kept : List GuardPlace) → SpellsForest bytes (tree_of bytes) → has_node bytes place ≡ true → kept ≡ kept_guards (node_in bytes place) → Keeps bytes kept (guards_of_node (node_in bytes place))
unfolding node_in
around bytes place kept s there e =
    let found = some_there (node_at (nodes_of bytes) place) there in
    let same = ap or_empty found.1 in
    let keeps_its = keeps bytes found.0 s (contains_found (nodes_of bytes) place found.0 found.1) in
    subst (λ (l : List GuardPlace). Keeps bytes l (guards_of_node (node_in bytes place))) (sym e) (subst (λ (n : Node). Keeps bytes (kept_guards n) (guards_of_node n)) (sym same) keeps_its)
