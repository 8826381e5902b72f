use Rattle.std.proofs.Common.{◌≡◌, ℕ, List, Option, option_and_then, option_map, ap, sym, ◌∙◌}
use Rattle.ifr_nodes.specs.Nodes.{nodes_of}
use Rattle.hii_questions.specs.Fields.{Asked, Field, field_of, question_with}
use Rattle.hii_questions.specs.code.Entries.{entry_range, entry_view}
use Rattle.hii_questions.specs.code.Ranges.{range_in}
use Rattle.hii_questions.specs.declared.entry.FieldEntry.{FieldEntry}
use Rattle.hii_questions.specs.declared.entry.QuestionEntry.{QuestionEntry}
use Rattle.hii_questions.proofs.QuestionLemmas.{field_found}
use Rattle.hii_questions.proofs.questions.Questions.field_of.Goals as goal
use Rattle.hii_questions.proofs.questions.Questions.field_of.Goals.{After-entry_of}

-- the field of what is kept, if it has one
abbrev kept_field : List ℕ → Option QuestionEntry → Option Field
kept_field ifr o = option_and_then (λ (q : Asked). q.field) (option_map (entry_view ifr) o)

found : (c : After-entry_of) → kept_field c.args.self.now.ifr c.entry_of.result
    ≡ option_and_then (field_of (nodes_of c.args.self.now.ifr)) (question_with (nodes_of c.args.self.now.ifr) c.args.id)
found c =
    let ns = nodes_of c.args.self.now.ifr in
    ap (option_and_then (λ (q : Asked). q.field)) c.entry_of.ensures.found ∙ field_found ns (question_with ns c.args.id)

pub returns : goal.returns
returns c = ap (kept_field c.args.self.now.ifr) (sym c.in_ok-entry.was) ∙ found (goal.at.returns c).After-entry_of

pub returns-in_err-entry : goal.returns-in_err-entry
returns-in_err-entry c =
    ap (λ (o : Option FieldEntry). option_map range_in (option_map entry_range o)) c.from_residual.ensures
    ∙ ap (kept_field c.args.self.now.ifr) (sym c.in_err-entry.was) ∙ found (goal.at.returns-in_err-entry c).After-entry_of
