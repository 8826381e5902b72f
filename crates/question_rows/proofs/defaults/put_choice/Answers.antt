use Rattle.std.proofs.Common.{Some, None, sym, ap, ◌∙◌}
use Rattle.hii_bytes.proofs.WritingLemmas.{◌⨾◌, writes_nil}
use Rattle.ifr_expr.specs.code.Views.{value_of}
use Rattle.ifr_expr.specs.declared.value.Value.{Value}
use Rattle.ifr_scopes.specs.code.Lists.{statement_node}
use Rattle.ifr_scopes.specs.code.Parts.{option_node}
use Rattle.condition_text.proofs.WriteLemmas.{written_as}
use Rattle.form_page.specs.code.PageViews.{texts_of, world_of}
use Rattle.question_audit.specs.code.Pages.{audited}
use Rattle.question_audit.proofs.ShownLemmas.{shown_choice}
use Rattle.question_rows.specs.Defaults.{behind_number, choice_behind}
use Rattle.question_rows.proofs.defaults.put_choice.Goals as goal

pub returns-in-Some : goal.returns-in-Some
returns-in-Some g c =
    let page = c.args.page in
    let n = statement_node c.args.statement in
    written_as (rw (c.chars.ensures, c.text-in-Some.ensures, c.text.ensures, c.op.ensures.bytes) at (c.put.ensures ⨾ c.put_html_shown.ensures))
    (ap behind_number (shown_choice (texts_of page) (world_of page) n c.in-Number.number (Some (option_node c.in-Some.option)) c.in-Some.ensures)
    ∙ ap (λ (v : Value). choice_behind (audited page) n (value_of v)) (sym c.in-Number.is))

pub returns-in_default-option_of_value : goal.returns-in_default-option_of_value
returns-in_default-option_of_value g c =
    let page = c.args.page in
    let n = statement_node c.args.statement in
    written_as (writes_nil _)
    (ap behind_number (shown_choice (texts_of page) (world_of page) n c.in-Number.number None c.in_default-option_of_value.ensures)
    ∙ ap (λ (v : Value). choice_behind (audited page) n (value_of v)) (sym c.in-Number.is))
