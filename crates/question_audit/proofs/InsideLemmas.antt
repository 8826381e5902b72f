-- What stands in the scope of a question are nodes of its package.
use Rattle.std.proofs.Common.{ℕ, Bool, List, [], get_or, subst, inl, inr, arith}
use Rattle.std.specs.Prelude.{Contains, filter}
use Rattle.std.proofs.lemmas.Bool.{cases_Bool, cond-true, cond-false}
use Rattle.std.proofs.lemmas.List.Elements.{Contains-get_or}
use Rattle.ifr_opcodes.specs.Forest.{Node, below, SpellsForest}
use Rattle.ifr_opcodes.specs.Reading.{tree_of}
use Rattle.ifr_nodes.specs.Nodes.{nodes_of, is_question, of_question}
use Rattle.ifr_nodes.specs.code.Checked.{IsNodeOf, AreNodesOf}
use Rattle.ifr_nodes.proofs.PlaceLemmas.{is_found}
use Rattle.ifr_nodes.proofs.ViewLemmas.{below_within, contains_found}
use Rattle.ifr_index.proofs.PathLemmas.{kept}

stands_below : (which : Node → Bool) (q n : Node) → Contains (of_question which q) n → Contains (below q) n
stands_below which q n w = elim (cases_Bool (is_question q)) [
  | inl asks ↦ kept which (below q) n (subst (λ (l : List Node). Contains l n) (cond-true (is_question q) (filter which (below q)) [] asks) w)
  | inr none ↦ let nowhere = subst (λ (l : List Node). Contains l n) (cond-false (is_question q) (filter which (below q)) [] none) w in absurd (omega (arith, nowhere.1))
]

pub inside_are_nodes : (bytes : List ℕ) (which : Node → Bool) (q : Node) → SpellsForest bytes (tree_of bytes) → IsNodeOf bytes q → AreNodesOf bytes (of_question which q)
inside_are_nodes bytes which q s is = λ i d lt.
    let n = get_or (of_question which q) i d in
    let within = below_within (tree_of bytes) 4 [] q n (contains_found (nodes_of bytes) q.place q is) (stands_below which q n (Contains-get_or (of_question which q) i d lt)) in
    is_found bytes (tree_of bytes) n s within
