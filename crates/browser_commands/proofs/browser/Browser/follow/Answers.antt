use Rattle.std.proofs.Common.{◌≡◌, ℕ, true, sym, subst}
use Rattle.ifr_nodes.specs.code.Checked.{IsNodeOf, has_form}
use Rattle.ifr_scopes.specs.code.Lists.{form_node}
use Rattle.session_steps.specs.State.{State}
use Rattle.browser_commands.proofs.FollowLemmas.{has_form_there, all_and_one}
use Rattle.browser_commands.proofs.Browsers.{seen}
use Rattle.browser_commands.proofs.browser.Browser.follow.Goals as goal

pub invariant_of-self : goal.invariant_of-self
invariant_of-self c =
    let there : has_form c.self.inside.forms c.place.result ≡ true = subst (λ (p : ℕ). has_form c.self.inside.forms p ≡ true) (sym c.place.ensures) (has_form_there c.self.inside.forms (form_node c.self.inside.form) c.self.invariant.node c.self.inside.form.form) in
    record {
      named_stores = c.self.invariant.named_stores;
      buffers = c.self.invariant.buffers;
      together = c.self.invariant.together;
      browsable = c.self.invariant.browsable;
      submitted = c.self.invariant.submitted;
      kept = c.self.invariant.kept;
      laid = c.self.invariant.laid;
      same = c.self.invariant.same;
      unwritten = c.self.invariant.unwritten;
      told = c.self.invariant.told;
      node = subst (λ (s : State). IsNodeOf s.ifr (form_node c.in_ok-form.form)) (sym (seen c.self.view_is)) c.in_ok-form.ensures.0;
      left = all_and_one (λ (p : ℕ). has_form c.self.inside.forms p ≡ true) c.self.inside.history.items c.push.new.self.items c.place.result c.self.invariant.left there c.push.ensures.items;
      asked = c.self.invariant.asked;
    }
