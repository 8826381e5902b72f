use Rattle.std.proofs.Common.{Some, ap, subst, sym, ◌∙◌}
use Rattle.hii_bytes.specs.Watching.{pen_of}
use Rattle.hii_bytes.proofs.WritingLemmas.{writes_nil}
use Rattle.ifr_expr.specs.Values.{Value}
use Rattle.ifr_opcodes.specs.Forest.{Node}
use Rattle.ifr_nodes.specs.code.Checked.{IsNodeOf}
use Rattle.hii_questions.specs.code.Views.{question_node, question_view}
use Rattle.guard_policy.specs.code.Views.{bytes_of}
use Rattle.condition_text.proofs.WriteLemmas.{written_as}
use Rattle.form_page.proofs.WholeTexts.{whole_texts}
use Rattle.question_audit.specs.code.Pages.{audited}
use Rattle.question_audit.specs.QuestionFacts.{named_default}
use Rattle.question_audit.proofs.value_facts.put_default_fact.Goals as goal

pub put_named_default-requires-clause-node : goal.put_named_default-requires-clause-node
put_named_default-requires-clause-node g c = subst (λ (n : Node). IsNodeOf (bytes_of c.args.page.policy) n) (sym c.statement.ensures) c.requires.node

pub put_named_default-requires-clause-whole : goal.put_named_default-requires-clause-whole
put_named_default-requires-clause-whole g c = λ units e.
    whole_texts c.take_default.new.spare (question_node c.args.question) (question_view c.args.question).field units (sym c.read_value-value.ensures ∙ e)

pub returns-in-Some-clause-text : goal.returns-in-Some-clause-text
returns-in-Some-clause-text g c =
    let a = audited c.args.page in
    let n = question_node c.args.question in
    written_as (rw c.statement.ensures at c.put_named_default.ensures)
    (ap (λ (v : Value). named_default a n c.args.name.now (Some v)) c.read_value-value.ensures ∙ ap (named_default a n c.args.name.now) (sym c.in-Some.ensures.value))

pub returns-in_default-clause-text : goal.returns-in_default-clause-text
returns-in_default-clause-text g c =
    written_as (writes_nil (pen_of g.W.Write.contents c.args.out.now)) (ap (named_default (audited c.args.page) (question_node c.args.question) c.args.name.now) (sym c.in_default.ensures.0))
