use Rattle.std.proofs.Common.{Some, ap, sym, ◌∙◌}
use Rattle.hii_bytes.specs.Watching.{pen_of}
use Rattle.hii_bytes.proofs.WritingLemmas.{writes_nil}
use Rattle.ifr_expr.specs.Values.{Value}
use Rattle.hii_questions.specs.code.Views.{question_node, question_view}
use Rattle.condition_text.proofs.WriteLemmas.{written_as}
use Rattle.form_page.proofs.WholeTexts.{whole_texts}
use Rattle.question_objects.specs.Values.{script_if_there}
use Rattle.question_objects.proofs.values.put_default.Goals as goal

pub put_script-requires : goal.put_script-requires
put_script-requires g c = λ units e.
    whole_texts c.take_default.new.spare (question_node c.args.question) (question_view c.args.question).field units (sym c.read_value-value.ensures ∙ e)

pub returns-in-Some-clause-text : goal.returns-in-Some-clause-text
returns-in-Some-clause-text g c =
    let n = question_node c.args.question in
    let key = c.args.key.now in
    written_as (rw c.statement.ensures at c.put_script.ensures)
    (ap (λ (v : Value). script_if_there key n (Some v)) c.read_value-value.ensures ∙ ap (script_if_there key n) (sym c.in-Some.ensures.value))

pub returns-in_default-clause-text : goal.returns-in_default-clause-text
returns-in_default-clause-text g c =
    written_as (writes_nil (pen_of g.W.Write.contents c.args.out.now)) (ap (script_if_there c.args.key.now (question_node c.args.question)) (sym c.in_default.ensures.0))
