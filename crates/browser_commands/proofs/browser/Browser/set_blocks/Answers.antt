use Rattle.std.proofs.Common.{◌≡◌, ℕ, Option, Some, refl, sym, ap, ◌∙◌}
use Rattle.std.proofs.lemmas.Result.{err_from_is_err_and}
use Rattle.config_text.specs.code.TextViews.{response_view}
use Rattle.ifr_nodes.specs.Nodes.{nodes_of}
use Rattle.session_steps.specs.Configuration.{store_named}
use Rattle.session_steps.specs.Renewed.{Shown, route_writes}
use Rattle.session_steps.specs.State.{State}
use Rattle.browser_commands.specs.code.Counting.{counted_all}
use Rattle.session_steps.specs.Step.{route_to}
use Rattle.browser_commands.specs.code.Changing.{IsOver}
use Rattle.browser_commands.proofs.Browsers.{state_in, seen}
use Rattle.browser_commands.proofs.RouteLemmas.{kept_alike, routes}
use Rattle.browser_commands.proofs.TellingLemmas.{no_store, some_store}
use Rattle.browser_commands.proofs.ValueLemmas.{browsed}
use Rattle.browser_commands.proofs.browser.Browser.set_blocks.Goals as goal

pub returns-in_err-store : goal.returns-in_err-store
returns-in_err-store c =
    let s = c.args.self.now.state in
    let response = response_view c.args.response.now in
    let none = no_store _ _ c.in_err-store.field-0.0 (rw c.header.ensures at c.in_err-store.ensures) in
    let p = err_from_is_err_and c.from_residual.result c.from_residual.ensures.1 in
    let ifr = nodes_of s.ifr in
    rw (p.1, p.2, none.1) (ap (route_to s response.1) none.0, refl, sym (ap (λ (o : Option ℕ). counted_all c.args.self.now.renewed ifr (route_writes s response.1 o)) none.0))

pub invariant_of-self : goal.invariant_of-self
invariant_of-self c =
    record {
      named_stores = c.self.invariant.named_stores;
      buffers = c.self.invariant.buffers;
      together = c.self.invariant.together;
      browsable = c.self.invariant.browsable;
      submitted = c.self.invariant.submitted;
      kept = c.set_blocks.ensures.same_package ∙ c.self.invariant.kept;
      laid = c.set_blocks.ensures.shape ∙ c.self.invariant.laid;
      same = kept_alike _ _ _ _ _ _ _ c.self.invariant.buffers c.self.invariant.laid c.set_blocks.ensures;
      unwritten = λ e. absurd cc;
      told = c.self.invariant.told;
      node = c.self.invariant.node;
      left = c.self.invariant.left;
      asked = λ answer e. absurd cc;
    }

pub returns : goal.returns
returns c =
    let s = c.args.self.now.state in
    let inside : Shown = record { state = state_in c.self.inside; renewed = c.self.inside.working.renewed } in
    let response = response_view c.args.response.now in
    let store = c.in_ok-store.store in
    let named : store_named (nodes_of s.ifr) s.path response.0 ≡ Some store = some_store _ store _ (rw c.header.ensures at c.in_ok-store.ensures) in
    let over : IsOver c.new-policy.result c.self.inside.working.stores s =
    record { ifr = c.new-policy.ensures.forms ∙ ap (λ (t : State). t.ifr) (seen c.self.view_is); removed = c.new-policy.ensures.removed ∙ ap (λ (t : State). t.removed) (seen c.self.view_is); working_is = ap (λ (t : State). t.working) (seen c.self.view_is) } in
    routes c.new-policy.result inside c.args.self.now response store c.self.inside.working c.set_blocks.new.working c.set_blocks.new.spare c.set_blocks.result c.self.view_is refl refl named over (rw c.blocks-2.ensures at c.set_blocks.ensures)

pub set_blocks-requires-clause-browsed : goal.set_blocks-requires-clause-browsed
set_blocks-requires-clause-browsed c = browsed c.new-policy.result c.self.inside c.self.invariant c.new-policy.ensures.forms

pub set_blocks-requires-clause-together : goal.set_blocks-requires-clause-together
set_blocks-requires-clause-together c = c.self.invariant.together ∙ sym c.new-policy.ensures.forms

pub set_blocks-requires-clause-same : goal.set_blocks-requires-clause-same
set_blocks-requires-clause-same c = c.self.invariant.same
