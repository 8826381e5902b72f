use Rattle.std.proofs.Common.{sym, subst}
use Rattle.ifr_nodes.specs.code.Checked.{IsNodeOf}
use Rattle.ifr_scopes.specs.code.Lists.{statement_node}
use Rattle.guard_policy.specs.code.Effects.{AreEffectsBy}
use Rattle.guard_policy.specs.code.Views.{bytes_of}
use Rattle.form_page.specs.declared.page.Page.{Page}
use Rattle.guard_policy.proofs.OptionLemmas.{first_of}
use Rattle.form_page.proofs.StatementLemmas.{nodes_after}
use Rattle.form_page.proofs.listed.Listed.step.Goals as goal

pub is_listed-requires-clause-node : goal.is_listed-requires-clause-node
is_listed-requires-clause-node g c =
    subst (λ (page : Page _ _). IsNodeOf (bytes_of page.policy) (statement_node c.in-Some.statement)) (sym c.loop-statement.invariant.0) (first_of _ _ _ _ c.in-Some.ensures.steps c.loop-statement.self.together)

pub is_listed-requires-clause-last : goal.is_listed-requires-clause-last
is_listed-requires-clause-last g c =
    subst (λ (page : Page _ _). AreEffectsBy page.policy (g.C.Conditions.holding page.conditions.now) c.loop-statement.self.last) (sym c.loop-statement.invariant.0) c.loop-statement.self.asked

pub invariant_of-self : goal.invariant_of-self
invariant_of-self g c = record {
  together = nodes_after statement_node _ _ _ _ c.next.ensures.steps c.loop-statement.self.together;
  asked = subst (λ (page : Page _ _). AreEffectsBy page.policy (g.C.Conditions.holding page.conditions.now) c.is_listed.new.last) c.loop-statement.invariant.0 c.is_listed.ensures.last;
}

pub returns-then-is_listed-clause-node : goal.returns-then-is_listed-clause-node
returns-then-is_listed-clause-node g c =
    subst (λ (page : Page _ _). IsNodeOf (bytes_of page.policy) (statement_node c.in-Some.statement)) (sym c.loop-statement.invariant.0) (first_of _ _ _ _ c.in-Some.ensures.steps c.loop-statement.self.together)
