use Rattle.std.proofs.Common.{◌≡◌, ℕ, List, sym, ap, subst, ◌∙◌}
use Rattle.guard_policy.specs.Policy.{fixed}
use Rattle.guard_policy.specs.World.{World}
use Rattle.guard_policy.specs.code.Answers.{unless}
use Rattle.hii_varstore.specs.Stores.{shape_of}
use Rattle.ifr_scopes.specs.code.Lists.{statement_node}
use Rattle.ifr_nodes.specs.code.Checked.{IsNodeOf}
use Rattle.session_steps.specs.Opening.{layout_in, IsBrowsable}
use Rattle.session_steps.specs.State.{State}
use Rattle.browser_commands.specs.code.Changing.{IsOver}
use Rattle.browser_commands.proofs.Browsers.{seen}
use Rattle.browser_commands.proofs.SetLemmas.{over_world}
use Rattle.browser_commands.proofs.browser.Browser.changeable.Goals as goal

pub changeable-requires-clause-package : goal.changeable-requires-clause-package
changeable-requires-clause-package c = c.policy.ensures.bytes ∙ ap (λ (s : State). s.ifr) (sym (seen c.self.view_is)) ∙ sym c.self.invariant.kept

pub changeable-requires-clause-node : goal.changeable-requires-clause-node
changeable-requires-clause-node c = subst (λ (ifr : List ℕ). IsNodeOf ifr (statement_node c.args.statement)) (sym c.policy.ensures.bytes) c.requires

pub returns-clause-denied : goal.returns-clause-denied
returns-clause-denied c =
    let s = c.args.self.now.state in
    let its : IsOver c.policy.result c.self.inside.working.stores s = record { ifr = c.policy.ensures.bytes; removed = c.policy.ensures.removed; working_is = ap (λ (t : State). t.working) (seen c.self.view_is) } in
    c.changeable.ensures ∙ ap (λ (w : World). unless (fixed w (statement_node c.args.statement))) (over_world c.policy.result c.self.inside.working.stores s its)

pub returns-clause-browsable : goal.returns-clause-browsable
returns-clause-browsable c = subst (λ (s : State). IsBrowsable s.ifr) (seen c.self.view_is) c.self.invariant.browsable

pub returns-clause-laid : goal.returns-clause-laid
returns-clause-laid c = subst (λ (s : State). shape_of s.working ≡ layout_in s.ifr) (seen c.self.view_is) c.self.invariant.laid
