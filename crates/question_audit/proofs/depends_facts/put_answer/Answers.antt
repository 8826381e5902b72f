use Rattle.std.proofs.Common.{◌≡◌, false, refl, sym, ap, ◌∙◌}
use Rattle.std.proofs.lemmas.Bool.{cond-false}
use Rattle.hii_bytes.proofs.WritingLemmas.{◌⨾◌}
use Rattle.hii_varstore.specs.Stores.{StoreMap}
use Rattle.ifr_expr.specs.Values.{undefined}
use Rattle.ifr_expr.specs.code.Views.{value_of}
use Rattle.hii_questions.specs.Answers.{value_of_field}
use Rattle.hii_questions.specs.code.Views.{question_node, question_view}
use Rattle.guard_policy.specs.Policy.{fixed}
use Rattle.guard_policy.specs.code.Answers.{unless}
use Rattle.guard_policy.specs.code.Views.{world}
use Rattle.guard_policy.specs.declared.policy.Policy.{Policy}
use Rattle.guard_policy.specs.declared.support.Decision.TheVariants.{Changeable}
use Rattle.form_page.proofs.WholeTexts.{whole_texts}
use Rattle.condition_text.proofs.WriteLemmas.{written_as}
use Rattle.question_audit.specs.QuestionLines.{is_undefined}
use Rattle.question_audit.proofs.KeptLemmas.{kept_told}
use Rattle.question_audit.proofs.ValueLemmas.{defined}
use Rattle.question_audit.proofs.depends_facts.put_answer.Goals as goal

pub returns-in-Undefined : goal.returns-in-Undefined
returns-in-Undefined g c =
    let n = question_node c.args.question in
    let field = (question_view c.args.question).field in
    let its : value_of_field c.args.page.stores.now n field ≡ undefined =
    ap (λ (s : StoreMap). value_of_field s n field) (sym c.stores.ensures) ∙ sym c.read_value-value.ensures ∙ ap value_of c.in-Undefined.is in
    rw its c.put.ensures

pub put_script_value-requires : goal.put_script_value-requires
put_script_value-requires g c = λ units e.
    whole_texts c.stores.result.now (question_node c.args.question) (question_view c.args.question).field units (sym c.read_value-value.ensures ∙ e)

pub returns : goal.returns
returns g c =
    let page = c.args.page in
    let stores = page.stores.now in
    let n = question_node c.args.question in
    let field = (question_view c.args.question).field in
    let statement = c.args.question.statement in
    let its : is_undefined (value_of_field stores n field) ≡ false =
    ap is_undefined (ap (λ (s : StoreMap). value_of_field s n field) (sym c.stores.ensures) ∙ sym c.read_value-value.ensures) ∙ defined c.read_value-value.result c.in_default.not-Undefined in
    let tells = kept_told page.policy c.policy.result stores (g.C.Conditions.holding c.conditions.result.now) (Changeable statement) c.policy.ensures c.conditions.ensures c.requires.node refl in
    let verdict = c.question_changeable_by-verdict.ensures statement refl stores tells ∙ ap (λ (p : Policy). unless (fixed (world p stores) n)) c.policy.ensures in
    written_as (rw (c.read_value-value.ensures, c.stores.ensures, c.statement.ensures, c.field.ensures.found, c.requires.names) at
    (c.put-2.ensures ⨾ c.put_told_value.ensures ⨾ c.put-3.ensures ⨾ c.put_script_value.ensures ⨾ c.put_field_behind.ensures ⨾ c.put-4.ensures
    ⨾ c.put_verdict_text.ensures (fixed (world page.policy stores) n) verdict)) (sym (cond-false _ _ _ its))
