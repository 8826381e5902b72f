use Rattle.std.proofs.Common.{◌≡◌, ◌∙◌, Bool, true, false, ap, subst, sym}
use Rattle.std.specs.Prelude.{◌&&◌}
use Rattle.ifr_opcodes.specs.Forest.{Node}
use Rattle.ifr_nodes.specs.Nodes.{nodes_of}
use Rattle.ifr_nodes.specs.code.Checked.{IsNodeOf}
use Rattle.hii_questions.specs.code.Views.{question_node}
use Rattle.guard_policy.specs.Policy.{fixed}
use Rattle.guard_policy.specs.code.Views.{bytes_of}
use Rattle.form_page.specs.code.PageViews.{world_of}
use Rattle.question_audit.specs.QuestionLines.{is_constant}
use Rattle.survey_audit.specs.Counts.{is_guarded, standing}
use Rattle.survey_audit.proofs.counts.is_for_good.Goals as goal

pub is_constant-requires-clause-node : goal.is_constant-requires-clause-node
is_constant-requires-clause-node g c = subst (λ (m : Node). IsNodeOf (bytes_of c.args.page.policy) m) (sym c.statement.ensures) c.requires.node

pub returns-then-is_guarded : goal.returns-then-is_guarded
returns-then-is_guarded g c =
    let page = c.args.page in
    let w = world_of page in
    let n = question_node c.args.question in
    let denied = fixed w n in
    let constant = c.is_constant.ensures denied c.requires.verdict ∙ ap (λ (m : Node). is_constant (nodes_of (bytes_of page.policy)) m denied) c.statement.ensures in
    let guarded : is_guarded (standing w n) ≡ true = ap is_guarded (sym c.requires.standing) ∙ sym c.is_guarded.ensures ∙ c.if-is_guarded.true in
    constant ∙ sym (ap (λ (b : Bool). b && is_constant (nodes_of (bytes_of page.policy)) n denied) guarded)

pub returns : goal.returns
returns g c =
    let page = c.args.page in
    let w = world_of page in
    let n = question_node c.args.question in
    let guarded : is_guarded (standing w n) ≡ false = ap is_guarded (sym c.requires.standing) ∙ sym c.is_guarded.ensures ∙ c.if-is_guarded.false in
    sym (ap (λ (b : Bool). b && is_constant (nodes_of (bytes_of page.policy)) n (fixed w n)) guarded)
