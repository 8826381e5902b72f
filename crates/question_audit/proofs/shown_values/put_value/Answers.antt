use Rattle.std.proofs.Common.{ℕ, List, sym, ap, subst, ◌∙◌}
use Rattle.hii_bytes.specs.Watching.{Writes, pen_of}
use Rattle.ifr_opcodes.specs.Forest.{Node}
use Rattle.ifr_scopes.specs.code.Lists.{statement_node}
use Rattle.hii_questions.specs.code.Views.{question_node}
use Rattle.form_page.specs.RowValues.{value_shown}
use Rattle.form_page.specs.code.PageViews.{texts_of, world_of}
use Rattle.question_audit.specs.code.Escaped.{escaped_text}
use Rattle.question_audit.proofs.ShownLemmas.{other_kind, same_shown}
use Rattle.question_audit.proofs.shown_values.put_value.Goals as goal

pub returns-in_default : goal.returns-in_default
returns-in_default g c =
    let page = c.args.page in
    let n = question_node c.args.question in
    let other = other_kind c.kind.result n (c.kind.ensures.bytes ∙ ap (λ (m : Node). m.op) c.statement-statement.ensures) c.in_default.not-OneOf c.in_default.not-OrderedList in
    let shown = c.value_of.ensures ∙ ap (value_shown (texts_of page) (world_of page) page.stores.now) c.statement-statement.ensures ∙ same_shown (texts_of page) (world_of page) page.stores.now n other.0 other.1 in
    subst (λ (its : List ℕ). Writes (pen_of g.W.Write.contents c.args.out.now) (pen_of g.W.Write.contents c.put_value_chars.new.out) (escaped_text c.args.how its)) shown c.put_value_chars.ensures
