use Rattle.std.proofs.Common.{ℕ, List, [], Some, ap, subst, sym, ◌∙◌}
use Rattle.hii_bytes.specs.Watching.{pen_of}
use Rattle.hii_bytes.proofs.WritingLemmas.{writes_nil}
use Rattle.ifr_expr.specs.Values.{Value}
use Rattle.ifr_expr.specs.code.Views.{value_of}
use Rattle.ifr_opcodes.specs.Forest.{Node}
use Rattle.ifr_nodes.specs.code.Checked.{IsNodeOf}
use Rattle.hii_questions.specs.code.Views.{question_node, question_view}
use Rattle.guard_policy.specs.code.Views.{bytes_of}
use Rattle.condition_text.proofs.WriteLemmas.{written_as}
use Rattle.form_page.proofs.WholeTexts.{whole_texts}
use Rattle.question_audit.specs.ScriptValues.{behind, stored_value}
use Rattle.question_audit.specs.code.Pages.{audited}
use Rattle.question_rows.specs.Defaults.{taken_default}
use Rattle.question_rows.proofs.DefaultLemmas.{ok_as}
use Rattle.question_rows.proofs.defaults.put_default.Goals as goal

pub put_taken-told-requires-clause-node : goal.put_taken-told-requires-clause-node
put_taken-told-requires-clause-node g c = subst (λ (n : Node). IsNodeOf (bytes_of c.args.page.policy) n) (sym c.statement.ensures) c.requires.node

pub put_taken-told-requires-clause-whole : goal.put_taken-told-requires-clause-whole
put_taken-told-requires-clause-whole g c = λ units e.
    whole_texts c.take_default.new.spare (question_node c.args.question) (question_view c.args.question).field units (sym c.read_value-value.ensures ∙ e)

pub returns-in_default-clause-told : goal.returns-in_default-clause-told
returns-in_default-clause-told g c =
    let stores = c.args.page.stores.now in
    let q = question_view c.args.question in
    written_as (writes_nil (pen_of g.W.Write.contents c.args.out.now)) (ap (taken_default (audited c.args.page) q.node (behind [] (stored_value stores q))) (sym c.in_default.ensures.0))

pub returns-clause-told : goal.returns-clause-told
returns-clause-told g c =
    let a = audited c.args.page in
    let q = question_view c.args.question in
    let stored = behind [] (stored_value c.args.page.stores.now q) in
    let its = value_of c.read_value-value.result in
    ok_as _ _ c.put_taken-told.result c.put_taken-told.ensures.told
    (ap (λ (n : Node). taken_default a n c.deref.result.now (Some its)) c.statement.ensures ∙ ap (λ (s : List ℕ). taken_default a q.node s (Some its)) (c.deref.ensures.value ∙ c.in_ok-stored.ensures)
    ∙ ap (λ (v : Value). taken_default a q.node stored (Some v)) c.read_value-value.ensures ∙ ap (taken_default a q.node stored) (sym c.in-Some.ensures.value))
