use Rattle.std.proofs.Common.{◌≡◌, codes, ap, sym, ◌∙◌}
use Rattle.hii_bytes.proofs.WritingLemmas.{◌⨾◌}
use Rattle.hii_varstore.specs.Stores.{StoreMap}
use Rattle.ifr_expr.specs.code.Views.{value_of}
use Rattle.ifr_opcodes.specs.Forest.{Node}
use Rattle.hii_questions.specs.Answers.{value_of_field}
use Rattle.hii_questions.specs.code.Views.{question_node, question_view}
use Rattle.condition_text.proofs.WriteLemmas.{written_as}
use Rattle.form_page.proofs.WholeTexts.{whole_texts}
use Rattle.question_objects.specs.Values.{script_member}
use Rattle.question_objects.proofs.values.put_values.Goals as goal

pub put_script-requires : goal.put_script-requires
put_script-requires g c = λ units e.
    whole_texts c.stores.result.now (question_node c.args.question) (question_view c.args.question).field units (sym c.read_value-value.ensures ∙ e)

pub returns-clause-text : goal.returns-clause-text
returns-clause-text g c =
    let n = question_node c.args.question in
    let field = (question_view c.args.question).field in
    let v = value_of c.read_value-value.result in
    let value : v ≡ value_of_field c.args.page.stores.now n field = c.read_value-value.ensures ∙ ap (λ (s : StoreMap). value_of_field s n field) c.stores.ensures in
    written_as c.put_script.ensures (ap (λ (m : Node). script_member (codes "value") m v) c.statement.ensures ∙ ap (script_member (codes "value") n) value)
    ⨾ c.put_shown_value.ensures ⨾ c.put_default.ensures.text ⨾ c.put_default-2.ensures.text
