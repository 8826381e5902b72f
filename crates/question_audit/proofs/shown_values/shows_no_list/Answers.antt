use Rattle.std.proofs.Common.{◌≡◌, ℕ, Bool, true, false, sym, ap, ◌∙◌}
use Rattle.std.specs.Prelude.{is_some, not}
use Rattle.ifr_scopes.specs.code.Lists.{statement_node}
use Rattle.hii_values.specs.Items.{items_in}
use Rattle.form_page.specs.RowValues.{choice}
use Rattle.form_page.specs.code.PageViews.{texts_of, world_of}
use Rattle.question_audit.specs.QuestionLines.{unguarded}
use Rattle.question_audit.proofs.ShownLemmas.{more_show}
use Rattle.question_audit.proofs.shown_values.shows_no_list.Goals as goal

pub returns-else-is_none : goal.returns-else-is_none
returns-else-is_none g c =
    let told = choice (texts_of c.args.page) (unguarded (world_of c.args.page)) (statement_node c.args.statement) in
    let items = sym (c.new-items.ensures ∙ ap (λ (wide : ℕ). items_in wide c.in-Buffer.bytes.now) c.element_width.ensures.value) ∙ c.in-Some.ensures in
    let more : is_some c.step-2.result ≡ true = c.is_none.ensures ∙ ap not c.if-is_none.false in
    rw c.in-Buffer.is (c.if-is_none.false ∙ sym (more_show told _ _ _ _ c.step-2.result items c.step-2.ensures more))
