use Rattle.std.proofs.Common.{◌≡◌, ℕ, List, map, filter, ap, sym, subst, ◌∙◌}
use Rattle.ifr_nodes.specs.Nodes.{nodes_of}
use Rattle.hii_questions.specs.Fields.{has_field, questions}
use Rattle.hii_questions.specs.code.ByField.{AreNumbers, FieldsRise, entries_at, has_range_at}
use Rattle.hii_questions.specs.code.Entries.{AreQuestionEntries, entry_view}
use Rattle.hii_questions.specs.code.Ranges.{range_in}
use Rattle.hii_questions.specs.code.Survey.{Survey}
use Rattle.hii_questions.specs.declared.entry.QuestionEntry.{QuestionEntry}
use Rattle.hii_questions.proofs.FieldLemmas.{fields_are, fields_within}
use Rattle.hii_questions.proofs.questions.Questions.with_field.Goals as goal
use Rattle.hii_questions.proofs.questions.Questions.with_field.Goals.{After-questions_with-numbers}

-- the numbers that are found are those of the field among all
found : (c : After-questions_with-numbers)
    → c.questions_with-numbers.result.now ≡ filter (has_range_at c.self.inside.by_place.items c.args.field) c.self.inside.by_field.items
found c =
    c.questions_with-numbers.ensures ∙ ap (λ (es : List QuestionEntry). filter (has_range_at es c.args.field) c.deref-2.result.now) c.deref.ensures.value
    ∙ ap (filter (has_range_at c.self.inside.by_place.items c.args.field)) c.deref-2.ensures.value

pub questions_with-numbers-requires : goal.questions_with-numbers-requires
questions_with-numbers-requires c =
    subst (λ (es : List QuestionEntry). FieldsRise es c.deref-2.result.now) (sym c.deref.ensures.value)
    (subst (FieldsRise c.self.inside.by_place.items) (sym c.deref-2.ensures.value) c.self.invariant.0.ordered.rise)

pub over-requires-clause-kept : goal.over-requires-clause-kept
over-requires-clause-kept c = subst (AreQuestionEntries c.self.inside.ifr.now) (sym c.deref-3.ensures.value) c.self.invariant.0.kept

pub over-requires-clause-within : goal.over-requires-clause-within
over-requires-clause-within c =
    let s = c.self.inside in
    let within = fields_within s.ifr.now s.by_place.items s.by_id s.by_field.items s.passwords.items s.password_steps.items c.self.invariant.0 c.args.field in
    subst (λ (es : List QuestionEntry). AreNumbers es c.questions_with-numbers.result.now) (sym c.deref-3.ensures.value)
    (subst (AreNumbers s.by_place.items) (sym (found (goal.at.over-requires-clause-within c).After-questions_with-numbers)) within)

pub returns : goal.returns
returns c =
    let f = c.args.field in
    let s = c.self.inside in
    let ns = c.questions_with-numbers.result.now in
    c.over.ensures ∙ ap (λ (es : List QuestionEntry). map (entry_view s.ifr.now) (entries_at es ns)) c.deref-3.ensures.value
    ∙ ap (λ (l : List ℕ). map (entry_view s.ifr.now) (entries_at s.by_place.items l)) (found (goal.at.returns c).After-questions_with-numbers)
    ∙ fields_are s.ifr.now s.by_place.items s.by_id s.by_field.items s.passwords.items s.password_steps.items c.self.invariant.0 f
    ∙ ap (λ (v : Survey). filter (has_field (range_in f)) (questions (nodes_of v.ifr))) c.self.view_is
