-- Questions that are looked up by their ids, and all of them.
use Rattle.std.proofs.Common.{◌≡◌, ℕ, true, Option, Some, None, List, [], ◌∷◌, map, refl, sym, ap, subst, ◌∙◌}
use Rattle.std.specs.Prelude.{filter, option_map}
use Rattle.std.proofs.lemmas.List.Elements.{All-filter}
use Rattle.ifr_opcodes.specs.Forest.{Node, SpellsForest}
use Rattle.ifr_opcodes.specs.Reading.{tree_of}
use Rattle.ifr_nodes.specs.Nodes.{is_question, nodes_of}
use Rattle.ifr_nodes.specs.code.Checked.{AreNodesOf, IsNodeOf}
use Rattle.ifr_nodes.proofs.PlaceLemmas.{is_found}
use Rattle.ifr_nodes.proofs.ScopeLemmas.{all_nodes}
use Rattle.hii_questions.specs.Fields.{Asked, asked, question_with, questions}
use Rattle.hii_questions.proofs.LawLemmas.{finds_questions}

-- The question of an id is a node of the package, and has its field there.
pub record IsFoundWith (bytes : List ℕ) (id : ℕ) (q : Asked) : Type 0 where
  pub node : IsNodeOf bytes q.node
  pub with_id : question_with (nodes_of bytes) id ≡ Some q.node
  pub own : q ≡ asked (nodes_of bytes) q.node

found_among : (bytes : List ℕ) (id : ℕ) (q : Asked) (o : Option Node) → SpellsForest bytes (tree_of bytes) → question_with (nodes_of bytes) id ≡ o → Some q ≡ option_map (asked (nodes_of bytes)) o → IsFoundWith bytes id q
found_among bytes id q None spelled is e = absurd cc
found_among bytes id q (Some n) spelled is e =
    let own : q ≡ asked (nodes_of bytes) n = cc in
    let same : n ≡ q.node = ap (λ (r : Asked). r.node) (sym own) in
    record {
      node = subst (IsNodeOf bytes) same (is_found bytes (tree_of bytes) n spelled (finds_questions (nodes_of bytes) id n is).0);
      with_id = is ∙ ap (λ (m : Node). Some m) same;
      own = own ∙ ap (asked (nodes_of bytes)) same;
    }

pub found_with : (bytes there : List ℕ) (id : ℕ) (q : Asked) → SpellsForest bytes (tree_of bytes) → there ≡ bytes → Some q ≡ option_map (asked (nodes_of there)) (question_with (nodes_of there) id) → IsFoundWith bytes id q
found_with bytes there id q spelled same e =
    found_among bytes id q (question_with (nodes_of bytes) id) spelled refl (subst (λ (b : List ℕ). Some q ≡ option_map (asked (nodes_of b)) (question_with (nodes_of b) id)) same e)

-- what has the id is a question
pub with_id_asks : (ns : List Node) (id : ℕ) (n : Node) → question_with ns id ≡ Some n → is_question n ≡ true
with_id_asks ns id n is = (finds_questions ns id n is).1

pub none_with : (bytes there : List ℕ) (id : ℕ) → there ≡ bytes → None ≡ option_map (asked (nodes_of there)) (question_with (nodes_of there) id) → question_with (nodes_of bytes) id ≡ None
none_with bytes there id same e = go (question_with (nodes_of bytes) id) (subst (λ (b : List ℕ). None ≡ option_map (asked (nodes_of b)) (question_with (nodes_of b) id)) same e)
  where
    go : (o : Option Node) → None ≡ option_map (asked (nodes_of bytes)) o → o ≡ None
    go None e = refl
    go (Some n) e = absurd cc

-- the nodes of questions
abbrev pub question_nodes : List Asked → List Node
question_nodes qs = map (λ (q : Asked). q.node) qs

nodes_again : (ns ms : List Node) → question_nodes (map (asked ns) ms) ≡ ms
nodes_again ns [] = refl
nodes_again ns (m ∷ ms) = ap (λ (l : List Node). m ∷ l) (nodes_again ns ms)

pub questions_are_nodes : (bytes : List ℕ) → SpellsForest bytes (tree_of bytes) → AreNodesOf bytes (question_nodes (questions (nodes_of bytes)))
questions_are_nodes bytes spelled =
    let ns = nodes_of bytes in
    subst (AreNodesOf bytes) (sym (nodes_again ns (filter is_question ns))) (All-filter is_question (IsNodeOf bytes) ns (all_nodes bytes spelled))
