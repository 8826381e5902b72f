-- The ids of questions that hold other bytes in some stores than in others, gathered one question after the other.
use Rattle.std.proofs.Common.{◌≡◌, ℕ, zero, suc, ◌+◌, ◌<◌, ◌≤◌, Bool, true, false, if◌then◌else◌, List, [], ◌∷◌, ◌++◌, map, filter, length, take, get_or, ap, ◌∙◌, arith}
use Rattle.std.proofs.lemmas.List.{append-nil, length-map, length-take-le, map-append, take_more}
use Rattle.std.proofs.lemmas.List.Elements.{filter-append}
use Rattle.std.proofs.lemmas.List.Sums.{count_by-le-length, length-filter}
use Rattle.ifr_opcodes.specs.Fields.{question_id}
use Rattle.hii_varstore.specs.Layout.{Shape}
use Rattle.hii_varstore.specs.Stores.{StoreMap}
use Rattle.hii_questions.specs.Changes.{holds_others}
use Rattle.hii_questions.specs.Fields.{Asked}
use Rattle.hii_questions.specs.code.Entries.{entry_view}
use Rattle.hii_questions.specs.code.Ids.{ids_of}
use Rattle.hii_questions.specs.code.LyingIn.{LieIn, LiesIn}
use Rattle.hii_questions.specs.declared.entry.QuestionEntry.{QuestionEntry}

-- the field of each of some questions lies in its store
pub lies_at : (shape : Shape) (ifr : List ℕ) (es : List QuestionEntry) (k : ℕ) (d : QuestionEntry) → LieIn shape (map (entry_view ifr) es) → k < length es → LiesIn shape (entry_view ifr (get_or es k d))
lies_at shape ifr [] k d lie less = absurd (omega (arith, less))
lies_at shape ifr (e ∷ es) zero d lie less = lie.0
lies_at shape ifr (e ∷ es) (suc k) d lie less = lies_at shape ifr es k d lie.1 (omega (arith, less))

module _ (ifr : List ℕ) (one other : StoreMap) where
  -- the ids of those of some questions that do
  abbrev pub differing : List QuestionEntry → List ℕ
  differing es = ids_of (filter (holds_others one other) (map (entry_view ifr) es))

  joined : (xs ys : List QuestionEntry) → differing (xs ++ ys) ≡ differing xs ++ differing ys
  joined xs ys =
      ap (λ (qs : List Asked). ids_of (filter (holds_others one other) qs)) (map-append (entry_view ifr) xs ys)
      ∙ ap ids_of (filter-append (holds_others one other) (map (entry_view ifr) xs) (map (entry_view ifr) ys))
      ∙ map-append (λ (q : Asked). question_id q.node.op) (filter (holds_others one other) (map (entry_view ifr) xs)) (filter (holds_others one other) (map (entry_view ifr) ys))

  next : (es : List QuestionEntry) (k : ℕ) (d : QuestionEntry) → k < length es → differing (take (k + 1) es) ≡ differing (take k es) ++ differing (get_or es k d ∷ [])
  next es k d less = ap differing (take_more es k d less) ∙ joined (take k es) (get_or es k d ∷ [])

  pub one_differs : (es : List QuestionEntry) (k : ℕ) (d : QuestionEntry) → k < length es → holds_others one other (entry_view ifr (get_or es k d)) ≡ true → differing (take (k + 1) es) ≡ differing (take k es) ++ question_id (entry_view ifr (get_or es k d)).node.op ∷ []
  one_differs es k d less is = next es k d less ∙ ap (λ (b : Bool). differing (take k es) ++ ids_of (if b then entry_view ifr (get_or es k d) ∷ [] else [])) is

  pub one_passed : (es : List QuestionEntry) (k : ℕ) (d : QuestionEntry) → k < length es → holds_others one other (entry_view ifr (get_or es k d)) ≡ false → differing (take (k + 1) es) ≡ differing (take k es)
  one_passed es k d less is = next es k d less ∙ ap (λ (b : Bool). differing (take k es) ++ ids_of (if b then entry_view ifr (get_or es k d) ∷ [] else [])) is ∙ append-nil (differing (take k es))

  -- there are no more ids than questions
  pub few : (es : List QuestionEntry) (k : ℕ) → k ≤ length es → length (differing (take k es)) ≤ k
  few es k within =
      let qs = map (entry_view ifr) (take k es) in
      omega (arith, length-map (filter (holds_others one other) qs) (λ (q : Asked). question_id q.node.op), length-filter (holds_others one other) qs, count_by-le-length (holds_others one other) qs, length-map (take k es) (entry_view ifr), length-take-le k es within)
