use Rattle.std.proofs.Common.{ℕ, ap, subst, sym, ◌∙◌}
use Rattle.hii_bytes.specs.Watching.{Writes}
use Rattle.hii_bytes.proofs.WritingLemmas.{◌⨾◌, writes_nil}
use Rattle.ifr_scopes.specs.code.Lists.{statement_node}
use Rattle.hii_values.specs.Items.{items_in}
use Rattle.form_page.specs.RowValues.{choice}
use Rattle.form_page.specs.code.PageViews.{texts_of, world_of}
use Rattle.question_audit.specs.QuestionLines.{unguarded}
use Rattle.question_audit.proofs.ShownLemmas.{escaped_list}
use Rattle.question_audit.proofs.shown_values.put_list.Goals as goal

pub returns-in-Some : goal.returns-in-Some
returns-in-Some g c =
    let told = choice (texts_of c.args.page) (unguarded (world_of c.args.page)) (statement_node c.args.statement) in
    let items = sym (c.new-items.ensures ∙ ap (λ (wide : ℕ). items_in wide c.in-Buffer.bytes.now) c.element_width.ensures.value) ∙ c.in-Some.ensures in
    rw c.in-Buffer.is (subst (Writes _ _) (sym (escaped_list c.args.how told _ _ _ items)) (c.put_choice.ensures ⨾ c.put_later_choices.ensures))

pub returns-in_default-step : goal.returns-in_default-step
returns-in_default-step g c = rw (c.in-Buffer.is, sym (c.new-items.ensures ∙ ap (λ (wide : ℕ). items_in wide c.in-Buffer.bytes.now) c.element_width.ensures.value), c.in_default-step.ensures.0) (writes_nil _)
