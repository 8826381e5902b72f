-- What stands in the scope of a question has this question as the innermost around it.
use Rattle.std.proofs.Common.{◌≡◌, ℕ, ◌+◌, Bool, true, Option, None, List, [], ◌∷◌, ◌++◌, length, get_or, refl, sym, ap, subst, ◌∙◌, arith, inl, inr, append_assoc}
use Rattle.std.specs.Prelude.{Contains, filter, Some, MatchOption}
use Rattle.std.specs.List.{last_or}
use Rattle.std.proofs.lemmas.Bool.{cases_Bool, false≢true}
use Rattle.std.proofs.lemmas.List.Elements.{All-tail, Contains-get_or, filter-append}
use Rattle.ifr_opcodes.specs.Fields.{question_id}
use Rattle.ifr_opcodes.specs.Opcode.{number}
use Rattle.ifr_opcodes.specs.Forest.{Ancestor, Node as Placed, as_ancestor, below}
use Rattle.ifr_opcodes.specs.Reading.{tree_of}
use Rattle.ifr_nodes.specs.Checked.{IsChecked}
use Rattle.ifr_nodes.specs.code.Checked.{IsNodeOf}
use Rattle.ifr_opcodes.specs.Rows.{is_question_number}
use Rattle.ifr_nodes.specs.Nodes.{nodes_of, is_question, of_question, questions_among, id_or_0, this_of}
use Rattle.ifr_nodes.specs.code.PartsLeft.{HaveThis}
use Rattle.ifr_nodes.specs.code.Views.{node_of}
use Rattle.ifr_nodes.specs.declared.node.Node.{Node}
use Rattle.ifr_index.proofs.PathLemmas.{kept}
use Rattle.ifr_nodes.proofs.PlaceLemmas.{is_found}
use Rattle.ifr_index.proofs.QuestionFacts.{no_statement_inside}
use Rattle.ifr_nodes.proofs.InnermostLemmas.{last_or-push}
use Rattle.ifr_nodes.proofs.ScopeLemmas.{ancestor_node, path_inside}
use Rattle.ifr_opcodes.proofs.StatementLemmas.{question_is_statement}
use Rattle.ifr_nodes.proofs.ViewLemmas.{below_within, contains_found}

-- no question among what stands between a question and a node in its scope
silent : (bytes : List ℕ) (q n : Placed) (before after : List Ancestor) → IsChecked bytes → IsNodeOf bytes n → is_question q ≡ true
    → n.path ≡ q.path ++ as_ancestor q ∷ (before ++ after) → questions_among after ≡ []
silent bytes q n before [] checked there is e = refl
silent bytes q n before (a ∷ after) checked there is e =
    let split : n.path ≡ (q.path ++ as_ancestor q ∷ before) ++ a ∷ after = e ∙ sym (append_assoc q.path (as_ancestor q ∷ before) (a ∷ after)) in
    let m = ancestor_node bytes n (q.path ++ as_ancestor q ∷ before) after a checked.spelled there split in
    let plain = no_statement_inside bytes q m.0 before checked (contains_found (nodes_of bytes) m.0.place m.0 m.1) is m.3 in
    let same : number m.0.op ≡ number a.op = ap (λ (b : Ancestor). number b.op) m.2 in
    let further_on : n.path ≡ q.path ++ as_ancestor q ∷ ((before ++ a ∷ []) ++ after) = e ∙ ap (λ (l : List Ancestor). q.path ++ as_ancestor q ∷ l) (sym (append_assoc before (a ∷ []) after)) in
    elim (cases_Bool (is_question_number (number a.op))) [
      | inl asks ↦ absurd (false≢true (sym plain ∙ question_is_statement (number m.0.op) (ap is_question_number same ∙ asks)))
      | inr other ↦ rw other (silent bytes q n (before ++ a ∷ []) after checked there is further_on)
    ]

pub this_below : (bytes : List ℕ) (q n : Placed) → IsChecked bytes → Contains (nodes_of bytes) q → is_question q ≡ true → Contains (below q) n → this_of n ≡ question_id q.op
this_below bytes q n checked within is inner =
    let path = path_inside q.children (q.place + length q.op) (q.path ++ as_ancestor q ∷ []) n inner in
    let whole : n.path ≡ q.path ++ as_ancestor q ∷ path.0 = path.1 ∙ append_assoc q.path (as_ancestor q ∷ []) path.0 in
    let there = is_found bytes (tree_of bytes) n checked.spelled (below_within (tree_of bytes) 4 [] q n within inner) in
    let none = silent bytes q n [] path.0 checked there is whole in
    let split : questions_among n.path ≡ questions_among q.path ++ as_ancestor q ∷ [] =
    ap questions_among whole ∙ filter-append (λ (a : Ancestor). is_question_number (number a.op)) q.path (as_ancestor q ∷ path.0)
    ∙ rw is (ap (λ (l : List Ancestor). questions_among q.path ++ as_ancestor q ∷ l) none) in
    ap (λ (l : List Ancestor). id_or_0 (last_or None l)) split ∙ ap id_or_0 (last_or-push None (questions_among q.path) (as_ancestor q))

-- the nodes in a question's scope that pass a test have its id
pub have_this : (bytes : List ℕ) (q : Placed) (which : Placed → Bool) (this : ℕ) → IsChecked bytes → Contains (nodes_of bytes) q → (is_question q ≡ true → this ≡ question_id q.op) → HaveThis this (of_question which q)
have_this bytes q which this checked within named = elim (cases_Bool (is_question q)) [
  | inl is ↦ rw is (λ i d lt.
      let n = get_or (filter which (below q)) i d in
      this_below bytes q n checked within is (kept which (below q) n (Contains-get_or (filter which (below q)) i d lt)) ∙ sym (named is))
  | inr other ↦ rw other (λ i d lt. absurd (omega (arith, lt)))
]

-- the nodes behind the first
pub have_rest : (this : ℕ) (left rest : List Placed) (next : Option Node) → MatchOption next ((left ≡ []) × (rest ≡ [])) (λ view. left ≡ node_of view ∷ rest) → HaveThis this left → HaveThis this rest
have_rest this left rest None e all = subst (HaveThis this) (sym e.1) (λ k d lt. absurd (omega (arith, lt)))
have_rest this left rest (Some view) e all = All-tail (λ n. this_of n ≡ this) (node_of view) rest (subst (HaveThis this) e all)
