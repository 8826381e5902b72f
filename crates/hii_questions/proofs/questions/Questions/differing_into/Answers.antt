use Rattle.std.proofs.Common.{◌≡◌, ℕ, List, [], ◌∷◌, ◌++◌, map, filter, length, take, sym, ap, subst, ◌∙◌, arith}
use Rattle.std.specs.Vec.{vec_capacity, vec_items}
use Rattle.std.proofs.lemmas.List.{length-map, take_all}
use Rattle.ifr_opcodes.specs.Fields.{question_id}
use Rattle.ifr_nodes.specs.Nodes.{nodes_of}
use Rattle.hii_varstore.specs.Stores.{shape_of}
use Rattle.hii_questions.specs.Changes.{holds_others}
use Rattle.hii_questions.specs.Fields.{Asked, questions}
use Rattle.hii_questions.specs.code.Entries.{AreQuestionEntries, entry_view}
use Rattle.hii_questions.specs.code.Ids.{ids_of}
use Rattle.hii_questions.specs.code.LyingIn.{LieIn}
use Rattle.hii_questions.specs.code.Survey.{Survey}
use Rattle.hii_questions.proofs.DifferingLemmas.{differing, few, lies_at, one_differs, one_passed}
use Rattle.hii_questions.proofs.questions.Questions.differing_into.Goals as goal
use Rattle.hii_questions.proofs.questions.Questions.differing_into.Goals.{After-deref-entry-items, then-differs, else-differs}

-- what is kept is of all questions
all_kept : (c : After-deref-entry-items) → map (entry_view c.self.inside.ifr.now) c.deref-entry-items.result.now ≡ questions (nodes_of c.args.self.now.ifr)
all_kept c =
    ap (map (entry_view c.self.inside.ifr.now)) c.deref-entry-items.ensures.value ∙ c.self.invariant.0.placed
    ∙ ap (λ (v : Survey). questions (nodes_of v.ifr)) c.self.view_is

pub differs-requires-clause-lies : goal.differs-requires-clause-lies
differs-requires-clause-lies c ifr =
    let lie = subst (LieIn (shape_of c.args.one.now)) (sym (all_kept (goal.at.differs-requires-clause-lies c).After-deref-entry-items)) c.requires.lie in
    lies_at (shape_of c.args.one.now) c.self.inside.ifr.now c.deref-entry-items.result.now c.loop-entry.entry-index _ lie c.loop-entry-test.true

pub kept-requires-clause-kept : goal.kept-requires-clause-kept
kept-requires-clause-kept c =
    let kept = subst (AreQuestionEntries c.self.inside.ifr.now) (sym c.deref-entry-items.ensures.value) c.self.invariant.0.kept in
    kept c.loop-entry.entry-index _ c.loop-entry-test.true

pub push_reserved-requires : goal.push_reserved-requires
push_reserved-requires c =
    let es = c.deref-entry-items.result.now in
    let so_far = c.loop-entry.invariant in
    omega (
      arith,
      c.requires.room,
      c.loop-entry.ids.ok.0,
      so_far.room,
      ap (λ (ids : List ℕ). length ids) so_far.ids,
      few c.self.inside.ifr.now c.args.one.now c.args.other.now es c.loop-entry.entry-index (omega (arith, c.loop-entry-test.true)),
      c.loop-entry-test.true,
      length-map es (entry_view c.self.inside.ifr.now),
      ap (λ (qs : List Asked). length qs) (all_kept (goal.at.push_reserved-requires c).After-deref-entry-items),
    )

pub loop-entry-preserved : goal.loop-entry-preserved
loop-entry-preserved c =
    let es = c.deref-entry-items.result.now in
    let ifr = c.self.inside.ifr.now in
    let one = c.args.one.now in
    let other = c.args.other.now in
    let k = c.loop-entry.entry-index in
    let so_far = c.loop-entry.invariant in
    elim c.if-differs.branch [
      | then-differs w ↦
          let id = w.id.ensures ∙ ap (λ (q : Asked). question_id q.node.op) w.kept.ensures in
          record {
            ids = ap vec_items w.ids-is ∙ w.push_reserved.ensures.items ∙ ap (λ (ids : List ℕ). ids ++ w.id.result ∷ []) so_far.ids ∙ ap (λ (n : ℕ). differing ifr one other (take k es) ++ n ∷ []) id
                ∙ sym (one_differs ifr one other es k _ c.loop-entry-test.true (sym (c.differs.ensures ifr) ∙ w.if-differs.true));
            room = ap vec_capacity w.ids-is ∙ w.push_reserved.ensures.capacity ∙ so_far.room;
          }
      | else-differs w ↦ record {
        ids = ap vec_items w.ids-is ∙ so_far.ids ∙ sym (one_passed ifr one other es k _ c.loop-entry-test.true (sym (c.differs.ensures ifr) ∙ w.if-differs.false));
        room = ap vec_capacity w.ids-is ∙ so_far.room;
      }
    ]

pub returns-clause-ids : goal.returns-clause-ids
returns-clause-ids c =
    let es = c.deref-entry-items.result.now in
    c.loop-entry.invariant.ids
    ∙ ap (differing c.self.inside.ifr.now c.args.one.now c.args.other.now) (take_all c.loop-entry.entry-index es (omega arith))
    ∙ ap (λ (qs : List Asked). ids_of (filter (holds_others c.args.one.now c.args.other.now) qs)) (all_kept (goal.at.returns-clause-ids c).After-deref-entry-items)
