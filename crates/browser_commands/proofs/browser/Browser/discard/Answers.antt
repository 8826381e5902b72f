use Rattle.std.proofs.Common.{false, List, sym, ap, ◌∙◌}
use Rattle.ifr_opcodes.specs.Forest.{Node}
use Rattle.hii_varstore.specs.Stores.{shape_of}
use Rattle.kept_conditions.specs.Kept.{KeptMap, counted}
use Rattle.kept_conditions.specs.Touching.{difference, renewals}
use Rattle.browser_rules.specs.Script as script
use Rattle.session_steps.specs.Renewed.{Shown, writes_of}
use Rattle.session_steps.specs.State.{State}
use Rattle.session_steps.specs.Step.{step}
use Rattle.ifr_nodes.specs.Nodes.{nodes_of}
use Rattle.browser_commands.specs.code.Counting.{counted_all}
use Rattle.browser_commands.proofs.Browsers.{seen, stands_with, state_in}
use Rattle.browser_commands.proofs.browser.Browser.discard.Goals as goal

pub copy_from-requires-clause-package : goal.copy_from-requires-clause-package
copy_from-requires-clause-package c = c.new-policy.ensures.forms ∙ sym c.self.invariant.kept

pub copy_from-requires-clause-before : goal.copy_from-requires-clause-before
copy_from-requires-clause-before c = c.self.invariant.same

pub copy_from-requires-clause-shape : goal.copy_from-requires-clause-shape
copy_from-requires-clause-shape c = ap shape_of c.self.invariant.same ∙ c.self.invariant.laid ∙ sym c.self.invariant.submitted

pub copy_from-requires-2 : goal.copy_from-requires-2
copy_from-requires-2 c = ap shape_of c.self.invariant.same ∙ c.self.invariant.laid ∙ sym c.self.invariant.submitted

pub invariant_of-self : goal.invariant_of-self
invariant_of-self c =
    stands_with c.self.inside c.copy_from.new.self c.copy_from-2.new.self false c.self.invariant (ap (λ (m : KeptMap). m.ifr) c.copy_from.ensures) (ap shape_of c.copy_from-2.ensures ∙ c.self.invariant.submitted)
    (c.copy_from-2.ensures ∙ sym (ap (λ (m : KeptMap). m.stores) c.copy_from.ensures))
    (λ _. sym (ap (λ (m : KeptMap). m.stores) c.copy_from.ensures))

pub returns-clause-state : goal.returns-clause-state
returns-clause-state c =
    ap (λ (m : KeptMap). record (state_in c.self.inside) { working = m.stores }) c.copy_from.ensures ∙ ap (λ (s : State). (step s script.Discard).state) (seen c.self.view_is)

pub returns-clause-renewed : goal.returns-clause-renewed
returns-clause-renewed c =
    ap (λ (m : KeptMap). m.renewed) c.copy_from.ensures ∙ ap (λ (ns : List Node). counted c.self.inside.working.renewed (renewals ns (difference c.self.inside.working.stores c.self.inside.committed))) (ap nodes_of c.self.invariant.kept)
    ∙ ap (λ (t : Shown). counted_all t.renewed (nodes_of t.state.ifr) (writes_of t.state script.Discard)) c.self.view_is
