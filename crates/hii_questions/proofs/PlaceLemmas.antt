-- The places of questions rise, and a question is found at its place by halving.
use Rattle.std.proofs.Common.{◌≡◌, ℕ, suc, ◌+◌, ◌≤◌, ◌<◌, eqb, Some, None, Ok, Err, List, [], ◌∷◌, length, get_or, map, sym, ap, subst, ◌∙◌, arith}
use Rattle.std.specs.Prelude.{filter, option_map}
use Rattle.std.specs.List.{find}
use Rattle.std.specs.List.Sorted.{IsBinarySearchResult}
use Rattle.std.specs.Ordering.{nat_cmp}
use Rattle.hii_bytes.specs.code.FirstFaults.{Rise}
use Rattle.ifr_opcodes.specs.Forest.{Node, SpellsForest, flat}
use Rattle.ifr_opcodes.specs.Reading.{tree_of}
use Rattle.ifr_nodes.specs.Accepted.{IsAccepted}
use Rattle.ifr_nodes.specs.Nodes.{nodes_of, is_question}
use Rattle.ifr_nodes.specs.code.Checked.{node_in}
use Rattle.hii_bytes.proofs.SearchLemmas.{searched, not_found}
use Rattle.ifr_nodes.proofs.PlaceLemmas.{Within, nodes_within}
use Rattle.hii_varstore.specs.Layout.{Shape}
use Rattle.hii_varstore.specs.StoreNodes.{layout_of}
use Rattle.hii_questions.specs.Fields.{Asked, asked_at, questions}
use Rattle.hii_questions.specs.code.Entries.{AreQuestionEntries, entry_view}
use Rattle.hii_questions.specs.code.Tables.{first_at, AreQuestions}
use Rattle.hii_bytes.specs.declared.id_table.IdEntry.{IdEntry}
use Rattle.hii_questions.specs.declared.entry.QuestionEntry.{QuestionEntry}
use Rattle.hii_questions.specs.declared.merging.Step.{Step}
use Rattle.hii_questions.proofs.EntryLemmas.{entry_place, found_alike}
use Rattle.hii_questions.proofs.PartLemmas.{lower, some_within}
use Rattle.hii_questions.proofs.QuestionLemmas.{found_mapped}

abbrev place_of : QuestionEntry → ℕ
place_of e = e.place

rise_asked : (ifr : List ℕ) (shape : Shape) (ns : List Node) (es : List QuestionEntry) (low high : ℕ) → SpellsForest ifr (tree_of ifr) → AreQuestionEntries ifr es → Within low high ns
    → map (entry_view ifr) es ≡ map (asked_at shape) ns → Rise place_of low es
rise_asked ifr shape ns [] low high s are w e = tt
rise_asked ifr shape [] (x ∷ es) low high s are w e = absurd (cc)
rise_asked ifr shape (n ∷ ns) (x ∷ es) low high s are w e =
    let here : entry_view ifr x ≡ asked_at shape n = cc in
    let later : map (entry_view ifr) es ≡ map (asked_at shape) ns = cc in
    let same : n.place ≡ x.place = ap (λ (a : Asked). a.node.place) (sym here) ∙ entry_place ifr x s (are 0 x (omega arith)) in (
      omega (arith, w.0, same),
      subst (λ low. Rise place_of low es) (ap (λ p. p + 1) same) (rise_asked ifr shape ns es (n.place + 1) high s (λ k d lt. are (suc k) d (omega (arith, lt))) w.1 later),
    )

-- the places of the questions of a package rise
pub questions_rise : (ifr : List ℕ) (es : List QuestionEntry) → IsAccepted ifr → AreQuestionEntries ifr es → map (entry_view ifr) es ≡ questions (nodes_of ifr) → Rise place_of 0 es
questions_rise ifr es accepted are placed =
    let f = tree_of ifr in
    let ns = nodes_of ifr in
    let s = accepted.checked.spelled in
    let high = 4 + length (flat f) in
    let within = some_within is_question ns 4 high (nodes_within f 4 [] s.are_nodes) in
    rise_asked ifr (layout_of ns) (filter is_question ns) es 0 high s are (lower (filter is_question ns) 4 high 0 high within (omega arith) (omega arith)) placed

module _ (ifr : List ℕ) (es : List QuestionEntry) (ids : List IdEntry) (fs : List ℕ) (ps : List QuestionEntry) (ss : List Step) (are : AreQuestions ifr es ids fs ps ss) (p at : ℕ) where
  first_is : first_at (questions (nodes_of ifr)) p ≡ option_map (entry_view ifr) (find (λ e. eqb (place_of e) p) es)
  first_is =
      ap (λ (all : List Asked). first_at all p) (sym are.placed) ∙ found_mapped (entry_view ifr) (λ (a : Asked). eqb a.node.place p) es
      ∙ ap (option_map (entry_view ifr)) (found_alike (λ e. eqb (node_in ifr e.place).place p) (λ e. eqb e.place p) es
      (λ k d lt. ap (λ (q : ℕ). eqb q p) (entry_place ifr (get_or es k d) are.accepted.checked.spelled (are.kept k d lt))))

  -- the question at a place
  pub found_at : (d : QuestionEntry) → at < length es → IsBinarySearchResult (λ e. nat_cmp (place_of e) p) es (Ok at) → Some (entry_view ifr (get_or es at d)) ≡ first_at (questions (nodes_of ifr)) p
  found_at d lt found = sym (first_is ∙ ap (option_map (entry_view ifr)) (searched place_of 0 p es at d are.rise lt found))

  pub none_at : at ≤ length es → IsBinarySearchResult (λ e. nat_cmp (place_of e) p) es (Err at) → None ≡ first_at (questions (nodes_of ifr)) p
  none_at within missing = sym (first_is ∙ ap (option_map (entry_view ifr)) (not_found place_of 0 p es at are.rise within missing))
