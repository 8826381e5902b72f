use Rattle.std.proofs.Common.{◌≡◌, List, Some, ℕ, ap, subst, sym, ◌∙◌}
use Rattle.ifr_opcodes.specs.Forest.{Node}
use Rattle.ifr_nodes.specs.Nodes.{nodes_of}
use Rattle.ifr_nodes.specs.code.Checked.{IsNodeOf}
use Rattle.hii_questions.specs.Fields.{question_with}
use Rattle.hii_questions.specs.code.Views.{question_node, question_view}
use Rattle.guard_policy.specs.World.{removed_at}
use Rattle.guard_policy.specs.declared.policy.Policy.{Policy}
use Rattle.question_audit.proofs.AskedLemmas.{found_with}
use Rattle.unlock_audit.specs.Tries.{begun_over}
use Rattle.unlock_audit.proofs.RunLemmas.{open_by, same_answer}
use Rattle.unlock_audit.proofs.runs.is_open_anew.Goals as goal

pub changeable-requires : goal.changeable-requires
changeable-requires c =
    let there = c.forms-forms.ensures ∙ ap (λ (p : Policy). p.forms.now) c.policy.ensures in
    let asked = c.questions.ensures.own ∙ sym there in
    let found = found_with c.forms-forms.result.now c.questions.result.now.ifr c.args.id (question_view c.in-Some.question) c.bytes.ensures.accepted.checked.spelled asked c.in-Some.ensures in
    subst (λ (n : Node). IsNodeOf c.new-policy.result.forms.now n) (sym c.statement.ensures) (subst (λ (b : List ℕ). IsNodeOf b (question_node c.in-Some.question)) (sym c.new-policy.ensures.forms) found.node)

pub returns-clause-opened : goal.returns-clause-opened
returns-clause-opened c =
    let s = c.args.browser.now.state in
    let there = c.forms-forms.ensures ∙ ap (λ (p : Policy). p.forms.now) c.policy.ensures in
    let asked = c.questions.ensures.own ∙ sym there in
    let n = question_node c.in-Some.question in
    let found = found_with c.forms-forms.result.now c.questions.result.now.ifr c.args.id (question_view c.in-Some.question) c.bytes.ensures.accepted.checked.spelled asked c.in-Some.ensures in
    let same = there ∙ c.page-page.ensures.bytes in
    let removed = c.new-policy.ensures.removed ∙ c.in_ok-removed.ensures.removed ∙ ap (λ (b : List ℕ). removed_at (nodes_of b) c.args.stores.now) same in
    c.is_ok.ensures.value ∙ open_by (begun_over s c.args.stores.now) c.args.id n c.changeable.result (subst (λ (b : List ℕ). question_with (nodes_of b) c.args.id ≡ Some n) same found.with_id)
    (c.changeable.ensures ∙ same_answer c.new-policy.result.forms.now s.ifr c.new-policy.result.removed.now (removed_at (nodes_of s.ifr) c.args.stores.now) c.args.stores.now _ n (c.new-policy.ensures.forms ∙ same) removed c.statement.ensures)
