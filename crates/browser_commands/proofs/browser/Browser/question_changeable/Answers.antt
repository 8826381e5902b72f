use Rattle.std.proofs.Common.{◌≡◌, ℕ, List, sym, ap, subst, ◌∙◌}
use Rattle.guard_policy.specs.Policy.{fixed}
use Rattle.guard_policy.specs.World.{World}
use Rattle.guard_policy.specs.code.Answers.{unless}
use Rattle.hii_varstore.specs.Stores.{shape_of}
use Rattle.hii_questions.specs.Fields.{asked}
use Rattle.hii_questions.specs.code.Views.{question_node, question_view}
use Rattle.ifr_nodes.specs.Nodes.{nodes_of}
use Rattle.ifr_nodes.specs.code.Checked.{IsNodeOf}
use Rattle.session_steps.specs.Opening.{layout_in, IsBrowsable}
use Rattle.session_steps.specs.State.{State}
use Rattle.browser_commands.specs.code.Changing.{IsOver}
use Rattle.browser_commands.proofs.Browsers.{seen}
use Rattle.browser_commands.proofs.SetLemmas.{over_world}
use Rattle.browser_commands.proofs.browser.Browser.question_changeable.Goals as goal

pub question_changeable-requires-clause-package : goal.question_changeable-requires-clause-package
question_changeable-requires-clause-package c = c.policy.ensures.bytes ∙ ap (λ (s : State). s.ifr) (sym (seen c.self.view_is)) ∙ sym c.self.invariant.kept

pub question_changeable-requires-clause-node : goal.question_changeable-requires-clause-node
question_changeable-requires-clause-node c = subst (λ (ifr : List ℕ). IsNodeOf ifr (question_node c.args.question)) (sym c.policy.ensures.bytes) c.requires.node

pub returns-clause-denied : goal.returns-clause-denied
returns-clause-denied c =
    let s = c.args.self.now.state in
    let its : IsOver c.policy.result c.self.inside.working.stores s = record { ifr = c.policy.ensures.bytes; removed = c.policy.ensures.removed; working_is = ap (λ (t : State). t.working) (seen c.self.view_is) } in
    c.question_changeable.ensures ∙ ap (λ (w : World). unless (fixed w (question_node c.args.question))) (over_world c.policy.result c.self.inside.working.stores s its)

pub returns-clause-browsable : goal.returns-clause-browsable
returns-clause-browsable c = subst (λ (s : State). IsBrowsable s.ifr) (seen c.self.view_is) c.self.invariant.browsable

pub returns-clause-laid : goal.returns-clause-laid
returns-clause-laid c = subst (λ (s : State). shape_of s.working ≡ layout_in s.ifr) (seen c.self.view_is) c.self.invariant.laid

pub question_changeable-requires-clause-own : goal.question_changeable-requires-clause-own
question_changeable-requires-clause-own c = subst (λ (ifr : List ℕ). question_view c.args.question ≡ asked (nodes_of ifr) (question_node c.args.question)) (sym c.policy.ensures.bytes) c.requires.own
