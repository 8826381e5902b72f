use Rattle.std.proofs.Common.{◌≡◌, false, sym, ap, ◌∙◌}
use Rattle.std.proofs.lemmas.Bool.{cond-false}
use Rattle.hii_bytes.proofs.WritingLemmas.{◌⨾◌}
use Rattle.hii_varstore.specs.Stores.{StoreMap}
use Rattle.ifr_expr.specs.Values.{undefined}
use Rattle.ifr_expr.specs.code.Views.{value_of}
use Rattle.hii_questions.specs.Answers.{value_of_field}
use Rattle.hii_questions.specs.code.Views.{question_node, question_view}
use Rattle.condition_text.proofs.WriteLemmas.{written_as}
use Rattle.question_audit.specs.QuestionLines.{is_undefined}
use Rattle.question_audit.proofs.ValueLemmas.{defined}
use Rattle.question_rows.proofs.depends.put_answer.Goals as goal

pub returns-in-Undefined-clause-told : goal.returns-in-Undefined-clause-told
returns-in-Undefined-clause-told g c =
    let n = question_node c.args.question in
    let field = (question_view c.args.question).field in
    let its : value_of_field c.args.page.stores.now n field ≡ undefined =
    ap (λ (s : StoreMap). value_of_field s n field) (sym c.stores.ensures) ∙ sym c.read_value.ensures ∙ ap value_of c.in-Undefined.is in
    rw its c.put.ensures

pub returns-clause-told : goal.returns-clause-told
returns-clause-told g c =
    let n = question_node c.args.question in
    let field = (question_view c.args.question).field in
    let its : is_undefined (value_of_field c.args.page.stores.now n field) ≡ false =
    ap is_undefined (ap (λ (s : StoreMap). value_of_field s n field) (sym c.stores.ensures) ∙ sym c.read_value.ensures) ∙ defined c.read_value.result c.in_default.not-Undefined in
    written_as (rw (c.deref.ensures.value, c.in_ok-shown.ensures) at (c.put-2.ensures ⨾ c.put-3.ensures)) (sym (cond-false _ _ _ its))
