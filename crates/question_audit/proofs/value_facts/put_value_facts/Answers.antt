use Rattle.std.proofs.Common.{◌≡◌, ap, subst, sym, ◌∙◌}
use Rattle.hii_bytes.proofs.WritingLemmas.{◌⨾◌}
use Rattle.hii_varstore.specs.Stores.{StoreMap}
use Rattle.ifr_expr.specs.code.Views.{value_of}
use Rattle.ifr_opcodes.specs.Forest.{Node}
use Rattle.ifr_nodes.specs.code.Checked.{IsNodeOf}
use Rattle.hii_questions.specs.Answers.{value_of_field}
use Rattle.hii_questions.specs.code.Views.{question_node, question_view}
use Rattle.guard_policy.specs.code.Views.{bytes_of}
use Rattle.condition_text.proofs.WriteLemmas.{written_as}
use Rattle.form_page.proofs.WholeTexts.{whole_texts}
use Rattle.question_audit.specs.code.Pages.{audited}
use Rattle.question_audit.specs.QuestionFacts.{value_line}
use Rattle.question_audit.proofs.value_facts.put_value_facts.Goals as goal

pub put_value_line-requires-clause-node : goal.put_value_line-requires-clause-node
put_value_line-requires-clause-node g c = subst (λ (n : Node). IsNodeOf (bytes_of c.args.page.policy) n) (sym c.statement.ensures) c.requires.node

pub put_value_line-requires-clause-whole : goal.put_value_line-requires-clause-whole
put_value_line-requires-clause-whole g c = λ units e.
    whole_texts c.stores.result.now (question_node c.args.question) (question_view c.args.question).field units (sym c.read_value-value.ensures ∙ e)

pub returns : goal.returns
returns g c =
    let a = audited c.args.page in
    let n = question_node c.args.question in
    let field = (question_view c.args.question).field in
    let v = value_of c.read_value-value.result in
    let value : v ≡ value_of_field c.args.page.stores.now n field = c.read_value-value.ensures ∙ ap (λ (s : StoreMap). value_of_field s n field) c.stores.ensures in
    written_as c.put_value_line.ensures (ap (λ (m : Node). value_line a m v) c.statement.ensures ∙ ap (value_line a n) value)
    ⨾ c.put_default_fact.ensures.text ⨾ c.put_default_fact-2.ensures.text
