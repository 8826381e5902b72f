-- The options of a question are nodes of its package.
use Rattle.std.proofs.Common.{ℕ, List, [], get_or, subst, inl, inr, arith}
use Rattle.std.specs.Prelude.{Contains, filter}
use Rattle.std.proofs.lemmas.Bool.{cases_Bool, cond-true, cond-false}
use Rattle.std.proofs.lemmas.List.Elements.{Contains-get_or}
use Rattle.ifr_opcodes.specs.Forest.{Node, below, SpellsForest}
use Rattle.ifr_opcodes.specs.Reading.{tree_of}
use Rattle.ifr_nodes.specs.code.Checked.{IsNodeOf, AreNodesOf}
use Rattle.ifr_nodes.specs.Nodes.{nodes_of, is_option, is_question, options}
use Rattle.ifr_index.proofs.PathLemmas.{kept}
use Rattle.ifr_nodes.proofs.PlaceLemmas.{is_found}
use Rattle.ifr_nodes.proofs.ViewLemmas.{below_within, contains_found}

options_within : (q n : Node) → Contains (options q) n → Contains (below q) n
options_within q n w = elim (cases_Bool (is_question q)) [
  | inl asks ↦ kept is_option (below q) n (subst (λ (l : List Node). Contains l n) (cond-true (is_question q) (filter is_option (below q)) [] asks) w)
  | inr none ↦ let nowhere = subst (λ (l : List Node). Contains l n) (cond-false (is_question q) (filter is_option (below q)) [] none) w in absurd (omega (arith, nowhere.1))
]

pub options_are_nodes : (bytes : List ℕ) (q : Node) → SpellsForest bytes (tree_of bytes) → IsNodeOf bytes q → AreNodesOf bytes (options q)
options_are_nodes bytes q s is = λ i d lt.
    let within = below_within (tree_of bytes) 4 [] q (get_or (options q) i d) (contains_found (nodes_of bytes) q.place q is) (options_within q _ (Contains-get_or (options q) i d lt)) in
    is_found bytes (tree_of bytes) (get_or (options q) i d) s within
