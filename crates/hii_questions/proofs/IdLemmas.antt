-- The questions of a package by their ids.
use Rattle.std.proofs.Common.{◌≡◌, ℕ, suc, ◌+◌, ◌<◌, false, eqb, Some, None, List, [], ◌∷◌, length, get_or, refl, sym, ap, ◌∙◌, arith, inl, inr, option_map}
use Rattle.std.specs.Prelude.{◌==◌}
use Rattle.std.proofs.lemmas.Bool.{cases_Bool}
use Rattle.std.proofs.lemmas.List.{get_or-map, length-map}
use Rattle.hii_bytes.specs.code.IdTables.{number_with}
use Rattle.hii_bytes.specs.declared.id_table.IdEntry.{IdEntry}
use Rattle.ifr_opcodes.specs.Fields.{question_id}
use Rattle.ifr_nodes.specs.Nodes.{nodes_of}
use Rattle.hii_varstore.specs.StoreNodes.{layout_of}
use Rattle.hii_questions.specs.Fields.{Asked, asked, question_with, questions}
use Rattle.hii_questions.specs.code.Entries.{entry_view}
use Rattle.hii_questions.specs.code.Ids.{ids_from}
use Rattle.hii_questions.specs.code.Tables.{AreQuestions, first_with}
use Rattle.hii_questions.specs.declared.entry.QuestionEntry.{QuestionEntry}
use Rattle.hii_questions.specs.declared.merging.Step.{Step}
use Rattle.hii_questions.proofs.QuestionLemmas.{first_is_with}

-- ---- the number of an id

-- the first question of an id has the number that is told
numbered : (id k r : ℕ) (qs : List Asked) → number_with (ids_from k qs) id ≡ Some r → (j : ℕ) × (r ≡ k + j) × (j < length qs) × ((d : Asked) → first_with qs id ≡ Some (get_or qs j d))
numbered id k r [] e = absurd cc
numbered id k r (q ∷ qs) e = elim (cases_Bool (question_id q.node.op == id)) [
  | inl here ↦
      let told : Some k ≡ Some r = rw here at e in
      let is : k ≡ r = cc in
      (0, omega (arith, is), omega arith, λ d. rw here refl)
  | inr other ↦
      let rest = numbered id (k + 1) r qs (rw other at e) in
      (suc rest.0, omega (arith, rest.1), omega (arith, rest.2), λ d. rw other (rest.3 d))
]

unnumbered : (id k : ℕ) (qs : List Asked) → number_with (ids_from k qs) id ≡ None → first_with qs id ≡ None
unnumbered id k [] e = refl
unnumbered id k (q ∷ qs) e = elim (cases_Bool (question_id q.node.op == id)) [
  | inl here ↦ let told : Some k ≡ None = rw here at e in absurd cc
  | inr other ↦ rw other (unnumbered id (k + 1) qs (rw other at e))
]

module _ (ifr : List ℕ) (es : List QuestionEntry) (ids : List IdEntry) (fs : List ℕ) (ps : List QuestionEntry) (ss : List Step) (are : AreQuestions ifr es ids fs ps ss) (id : ℕ) where
  number : (r : ℕ) → number_with ids id ≡ Some r → (j : ℕ) × (r ≡ j) × (j < length (questions (nodes_of ifr))) × ((d : Asked) → first_with (questions (nodes_of ifr)) id ≡ Some (get_or (questions (nodes_of ifr)) j d))
  number r told =
      let its = numbered id 0 r (questions (nodes_of ifr)) (sym (are.found id) ∙ told) in
      (its.0, omega (arith, its.1), its.2, its.3)

  as_many : length (questions (nodes_of ifr)) ≡ length es
  as_many = ap (length {A = Asked}) (sym are.placed) ∙ length-map es (entry_view ifr)

  pub number_within : (r : ℕ) → number_with ids id ≡ Some r → r < length es
  number_within r told = let its = number r told in omega (arith, its.1, its.2, as_many)

  -- the question of an id that is not 0
  pub number_found : (r : ℕ) (d : QuestionEntry) → eqb id 0 ≡ false → number_with ids id ≡ Some r → Some (entry_view ifr (get_or es r d)) ≡ option_map (asked (nodes_of ifr)) (question_with (nodes_of ifr) id)
  number_found r d some told =
      let ns = nodes_of ifr in
      let its = number r told in
      let same : get_or (questions ns) r (entry_view ifr d) ≡ entry_view ifr (get_or es r d) =
      ap (λ (l : List Asked). get_or l r (entry_view ifr d)) (sym are.placed) ∙ get_or-map (entry_view ifr) es r d (entry_view ifr d) (number_within r told) in
      ap (λ (a : Asked). Some a) (sym same) ∙ ap (λ (j : ℕ). Some (get_or (questions ns) j (entry_view ifr d))) its.1 ∙ sym (its.3 (entry_view ifr d)) ∙ first_is_with (layout_of ns) ns id some

  pub number_missed : eqb id 0 ≡ false → number_with ids id ≡ None → option_map (asked (nodes_of ifr)) (question_with (nodes_of ifr) id) ≡ None
  number_missed some told =
      let ns = nodes_of ifr in
      sym (first_is_with (layout_of ns) ns id some) ∙ unnumbered id 0 (questions ns) (sym (are.found id) ∙ told)
