use Rattle.std.proofs.Common.{◌≡◌, refl, ap, subst, sym, ◌∙◌}
use Rattle.hii_bytes.proofs.WritingLemmas.{◌⨾◌}
use Rattle.ifr_opcodes.specs.Forest.{Node}
use Rattle.ifr_nodes.specs.Nodes.{nodes_of}
use Rattle.ifr_nodes.specs.code.Checked.{IsNodeOf}
use Rattle.hii_questions.specs.code.Views.{question_node, question_view}
use Rattle.guard_policy.specs.Policy.{fixed}
use Rattle.guard_policy.specs.code.Answers.{unless}
use Rattle.guard_policy.specs.code.Views.{bytes_of, world}
use Rattle.guard_policy.specs.declared.policy.Policy.{Policy}
use Rattle.guard_policy.specs.declared.support.Decision.TheVariants.{Changeable}
use Rattle.form_page.proofs.WholeTexts.{whole_texts}
use Rattle.form_page.specs.code.PageViews.{world_of}
use Rattle.question_audit.specs.QuestionLines.{is_constant}
use Rattle.question_audit.proofs.KeptLemmas.{kept_told}
use Rattle.question_audit.proofs.question_line.put_question.Goals as goal
use Rattle.question_audit.proofs.question_line.put_question.Goals.{After-question_changeable_by-verdict}

-- what forbids that the question is changed
said : (g : _) (c : After-question_changeable_by-verdict g) → c.question_changeable_by-verdict.result ≡ unless (fixed (world_of c.args.page) (question_node c.args.question))
said g c =
    let page = c.args.page in
    let stores = page.stores.now in
    let n = question_node c.args.question in
    let statement = c.args.question.statement in
    let tells = kept_told page.policy c.policy.result stores (g.C.Conditions.holding c.conditions.result.now) (Changeable statement) c.policy.ensures c.conditions.ensures c.requires.node refl in
    c.question_changeable_by-verdict.ensures statement refl stores tells ∙ ap (λ (p : Policy). unless (fixed (world p stores) n)) c.policy.ensures

pub put_columns-requires-clause-verdict : goal.put_columns-requires-clause-verdict
put_columns-requires-clause-verdict g c = said g (goal.at.put_columns-requires-clause-verdict g c).After-question_changeable_by-verdict

pub put_script_value-requires : goal.put_script_value-requires
put_script_value-requires g c = λ units e.
    whole_texts c.stores.result.now (question_node c.args.question) (question_view c.args.question).field units (sym c.read_value-value.ensures ∙ e)

pub is_constant-requires-clause-node : goal.is_constant-requires-clause-node
is_constant-requires-clause-node g c = subst (λ (m : Node). IsNodeOf (bytes_of c.args.page.policy) m) (sym c.statement-statement.ensures) c.requires.node

pub put_undefined-requires-clause-node : goal.put_undefined-requires-clause-node
put_undefined-requires-clause-node g c = subst (λ (m : Node). IsNodeOf (bytes_of c.args.page.policy) m) (sym c.statement-statement.ensures) c.requires.node

pub returns-clause-text : goal.returns-clause-text
returns-clause-text g c =
    let page = c.args.page in
    let forbids = fixed (world_of page) (question_node c.args.question) in
    let constant = c.is_constant.ensures forbids (said g (goal.at.returns-clause-text g c).After-question_changeable_by-verdict)
    ∙ ap (λ (m : Node). is_constant (nodes_of (bytes_of page.policy)) m forbids) c.statement-statement.ensures in
    rw (c.read_value-value.ensures, c.stores.ensures, c.op.ensures.bytes, c.statement-statement.ensures, constant) at
    (c.put_columns.ensures ⨾ c.put_shown_value.ensures ⨾ c.put_script_value.ensures ⨾ c.put_default.ensures.text ⨾ c.put_word.ensures ⨾ c.put_flags.ensures ⨾ c.put_led.ensures
    ⨾ c.put_undefined.ensures ⨾ c.put.ensures)
