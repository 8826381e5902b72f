-- No question stands in the scope of another.
use Rattle.std.proofs.Common.{◌≡◌, ℕ, ◌+◌, Bool, false, true, List, [], ◌∷◌, ◌++◌, length, refl, sym, ◌∙◌, arith, inl, inr, append_assoc}
use Rattle.std.specs.Prelude.{Contains, filter}
use Rattle.std.proofs.lemmas.Bool.{cases_Bool, false≢true}
use Rattle.ifr_opcodes.specs.Forest.{Node, as_ancestor, below}
use Rattle.ifr_opcodes.specs.Reading.{tree_of}
use Rattle.ifr_nodes.specs.Checked.{IsChecked}
use Rattle.ifr_nodes.specs.Nodes.{nodes_of, is_question}
use Rattle.ifr_index.proofs.QuestionFacts.{no_statement_inside}
use Rattle.ifr_nodes.proofs.ScopeLemmas.{path_inside}
use Rattle.ifr_nodes.proofs.ViewLemmas.{below_within, further}
use Rattle.hii_questions.proofs.QuestionLemmas.{question_is_statement}

-- none of some nodes passes a test
none_passes : (p : Node → Bool) (ns : List Node) → ((n : Node) → Contains ns n → p n ≡ false) → filter p ns ≡ []
none_passes p [] fails = refl
none_passes p (n ∷ ns) fails =
    let first = fails n (0, omega arith, refl) in
    rw first (none_passes p ns (λ m within. fails m (further n ns m within)))

pub no_question_below : (bytes : List ℕ) (q : Node) → IsChecked bytes → Contains (nodes_of bytes) q → is_question q ≡ true → filter is_question (below q) ≡ []
no_question_below bytes q checked within is = none_passes is_question (below q) (λ n inner.
    let path = path_inside q.children (q.place + length q.op) (q.path ++ as_ancestor q ∷ []) n inner in
    let whole : n.path ≡ q.path ++ as_ancestor q ∷ path.0 = path.1 ∙ append_assoc q.path (as_ancestor q ∷ []) path.0 in
    let silent = no_statement_inside bytes q n path.0 checked (below_within (tree_of bytes) 4 [] q n within inner) is whole in
    elim (cases_Bool (is_question n)) [
      | inl asks ↦ absurd (false≢true (sym silent ∙ question_is_statement n asks))
      | inr other ↦ other
    ])
