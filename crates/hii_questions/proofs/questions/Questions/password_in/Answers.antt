use Rattle.std.proofs.Common.{◌≡◌, List, Some, find, option_map, ap, sym, ◌∙◌}
use Rattle.ifr_nodes.specs.Nodes.{nodes_of}
use Rattle.hii_questions.specs.Fields.{Asked, is_password_in, questions}
use Rattle.hii_questions.specs.code.Entries.{entry_field, entry_view}
use Rattle.hii_questions.specs.code.Ranges.{range_in}
use Rattle.hii_questions.specs.code.Survey.{Survey}
use Rattle.hii_questions.specs.code.Views.{question_view}
use Rattle.hii_questions.specs.declared.entry.QuestionEntry.{QuestionEntry}
use Rattle.hii_questions.proofs.FieldLemmas.{first_password, password_kept}
use Rattle.hii_questions.proofs.StepLemmas.{meets_in}
use Rattle.hii_questions.proofs.questions.Questions.password_in.Goals as goal
use Rattle.hii_questions.proofs.questions.Questions.password_in.Goals.{After-first_in}

-- what is found is the first of the passwords
found : (c : After-first_in) → c.first_in.result ≡ find (λ e. meets_in c.args.field (entry_field e)) c.self.inside.passwords.items
found c = c.first_in.ensures ∙ ap (λ (es : List QuestionEntry). find (λ e. meets_in c.args.field (entry_field e)) es) c.deref.ensures.value

pub kept-requires-clause-kept : goal.kept-requires-clause-kept
kept-requires-clause-kept c =
    let s = c.self.inside in
    password_kept s.ifr.now s.by_place.items s.by_id s.by_field.items s.passwords.items s.password_steps.items c.self.invariant.0 c.args.field c.in_ok-entry.entry
    (sym (found (goal.at.kept-requires-clause-kept c).After-first_in) ∙ c.in_ok-entry.was)

pub returns : goal.returns
returns c =
    let f = c.args.field in
    let s = c.self.inside in
    ap (λ (a : Asked). Some a) c.kept.ensures ∙ ap (option_map (entry_view s.ifr.now)) (sym c.in_ok-entry.was ∙ found (goal.at.returns c).After-first_in)
    ∙ first_password s.ifr.now s.by_place.items s.by_id s.by_field.items s.passwords.items s.password_steps.items c.self.invariant.0 f
    ∙ ap (λ (v : Survey). find (is_password_in (range_in f)) (questions (nodes_of v.ifr))) c.self.view_is

pub returns-in_err-entry : goal.returns-in_err-entry
returns-in_err-entry c =
    let f = c.args.field in
    let s = c.self.inside in
    ap (option_map question_view) c.from_residual.ensures ∙ ap (option_map (entry_view s.ifr.now)) (sym c.in_err-entry.was ∙ found (goal.at.returns-in_err-entry c).After-first_in)
    ∙ first_password s.ifr.now s.by_place.items s.by_id s.by_field.items s.passwords.items s.password_steps.items c.self.invariant.0 f
    ∙ ap (λ (v : Survey). find (is_password_in (range_in f)) (questions (nodes_of v.ifr))) c.self.view_is
