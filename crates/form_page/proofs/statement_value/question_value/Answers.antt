use Rattle.std.proofs.Common.{◌≡◌, true, ◌∙◌, sym, ap}
use Rattle.std.specs.Prelude.{option_map}
use Rattle.std.proofs.lemmas.Bool.{cond-true}
use Rattle.ifr_scopes.specs.code.Lists.{statement_node}
use Rattle.ifr_nodes.specs.Nodes.{nodes_of, is_question}
use Rattle.hii_values.specs.Types.{is_password}
use Rattle.hii_questions.specs.Answers.{value_of_field}
use Rattle.hii_questions.specs.Fields.{Asked, field_of}
use Rattle.hii_questions.specs.code.Views.{question_node, question_view}
use Rattle.guard_policy.specs.code.Views.{bytes_of}
use Rattle.form_page.specs.code.PageViews.{texts_of, world_of}
use Rattle.form_page.specs.RowValues.{password_shown, stored_shown}
use Rattle.form_page.proofs.PasswordLemmas.{secret_shown}
use Rattle.form_page.proofs.StatementLemmas.{asked_is}
use Rattle.form_page.proofs.WholeTexts.{whole_texts}
use Rattle.form_page.proofs.statement_value.question_value.Goals as goal

pub stored_value-requires-clause-whole : goal.stored_value-requires-clause-whole
stored_value-requires-clause-whole g c = λ units e.
    whole_texts c.args.page.stores.now (question_node c.in-Some-2.question) (question_view c.in-Some-2.question).field units (sym c.read_value.ensures ∙ e)

pub stored_value-requires-clause-open : goal.stored_value-requires-clause-open
stored_value-requires-clause-open g c =
    let ns = nodes_of (bytes_of c.args.page.policy) in
    let n = statement_node c.args.statement in
    let is = asked_is ns n (question_view c.in-Some.question) (ap (option_map question_view) (sym c.in-Some.is) ∙ c.requires.asked) in
    ap (λ (q : Asked). is_password q.node) (sym is.1) ∙ sym c.is_password.ensures ∙ c.if-is_password.false

pub returns-in-Some : goal.returns-in-Some
returns-in-Some g c =
    let ns = nodes_of (bytes_of c.args.page.policy) in
    let n = statement_node c.args.statement in
    let stores = c.args.page.stores.now in
    let texts = texts_of c.args.page in
    let w = world_of c.args.page in
    let is = asked_is ns n (question_view c.in-Some.question) (ap (option_map question_view) (sym c.in-Some.is) ∙ c.requires.asked) in
    let secret : is_password n ≡ true = ap (λ (q : Asked). is_password q.node) (sym is.1) ∙ sym c.is_password.ensures ∙ c.if-is_password.true in
    c.password_value.ensures ∙ ap (λ (q : Asked). password_shown (value_of_field stores q.node q.field)) is.1
    ∙ sym (secret_shown texts w n (value_of_field stores n (field_of ns n)) secret)
    ∙ sym (cond-true (is_question n) _ _ is.0)

pub returns-in-Some-2 : goal.returns-in-Some-2
returns-in-Some-2 g c =
    let ns = nodes_of (bytes_of c.args.page.policy) in
    let n = statement_node c.args.statement in
    let stores = c.args.page.stores.now in
    let is = asked_is ns n (question_view c.in-Some-2.question) (ap (option_map question_view) (sym c.in-Some-2.is) ∙ c.requires.asked) in
    let value = c.read_value.ensures ∙ ap (λ (q : Asked). value_of_field stores q.node q.field) is.1 in
    c.stored_value.ensures ∙ ap (stored_shown (texts_of c.args.page) (world_of c.args.page) n) value
    ∙ sym (cond-true (is_question n) _ _ is.0)
