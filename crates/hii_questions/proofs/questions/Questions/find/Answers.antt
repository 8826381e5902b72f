use Rattle.std.proofs.Common.{Option, Some, option_map, ap, sym, subst, ◌∙◌}
use Rattle.std.specs.Prelude.{IfSome}
use Rattle.hii_questions.specs.Fields.{Asked}
use Rattle.hii_questions.specs.code.Entries.{IsQuestionEntry, entry_view}
use Rattle.hii_questions.specs.code.Survey.{Survey}
use Rattle.hii_questions.specs.code.Views.{question_view}
use Rattle.hii_questions.specs.declared.entry.QuestionEntry.{QuestionEntry}
use Rattle.hii_questions.proofs.questions.Questions.find.Goals as goal

pub kept-requires-clause-kept : goal.kept-requires-clause-kept
kept-requires-clause-kept c =
    let kept = subst (λ (o : Option QuestionEntry). IfSome o (IsQuestionEntry c.args.self.now.ifr)) c.in_ok-entry.was c.entry_of.ensures.kept in
    subst (λ (v : Survey). IsQuestionEntry v.ifr c.in_ok-entry.entry) (sym c.self.view_is) kept

pub returns : goal.returns
returns c =
    let entry = c.in_ok-entry.entry in
    ap (λ (a : Asked). Some a) c.kept.ensures ∙ ap (λ (v : Survey). Some (entry_view v.ifr entry)) c.self.view_is
    ∙ ap (option_map (entry_view c.args.self.now.ifr)) (sym c.in_ok-entry.was) ∙ c.entry_of.ensures.found

pub returns-in_err-entry : goal.returns-in_err-entry
returns-in_err-entry c =
    ap (option_map question_view) c.from_residual.ensures ∙ ap (option_map (entry_view c.args.self.now.ifr)) (sym c.in_err-entry.was) ∙ c.entry_of.ensures.found
