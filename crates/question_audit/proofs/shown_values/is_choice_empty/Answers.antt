use Rattle.std.proofs.Common.{ℕ, List, Option, Some, None, ap, ◌∙◌}
use Rattle.ifr_scopes.specs.code.Lists.{statement_node}
use Rattle.ifr_scopes.specs.code.Parts.{option_node}
use Rattle.form_page.specs.RowValues.{choice_text}
use Rattle.form_page.specs.code.PageViews.{texts_of, world_of}
use Rattle.question_audit.specs.QuestionLines.{has_no_text}
use Rattle.question_audit.proofs.ShownLemmas.{no_text, shown_choice}
use Rattle.question_audit.proofs.shown_values.is_choice_empty.Goals as goal

pub returns-in-Some : goal.returns-in-Some
returns-in-Some g c =
    let page = c.args.page in
    let found = shown_choice (texts_of page) (world_of page) (statement_node c.args.statement) c.args.value (Some (option_node c.in-Some.option)) c.in-Some.ensures in
    no_text _ _ c.next.result c.is_none.result (rw (c.chars.ensures, c.text-in-Some.ensures, c.text.ensures, c.op.ensures.bytes) at c.next.ensures.steps) c.is_none.ensures
    ∙ ap (λ (its : Option (List ℕ)). has_no_text (choice_text its)) found

pub returns-in-None : goal.returns-in-None
returns-in-None g c =
    let page = c.args.page in
    ap (λ (its : Option (List ℕ)). has_no_text (choice_text its)) (shown_choice (texts_of page) (world_of page) (statement_node c.args.statement) c.args.value None c.in-None.ensures)
