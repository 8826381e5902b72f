use Rattle.std.proofs.Common.{ap, ◌∙◌}
use Rattle.kept_conditions.specs.Kept.{KeptMap}
use Rattle.session_steps.specs.Renewed.{opened}
use Rattle.browser_commands.proofs.Browsers.{seen, stands_still, with_stores}
use Rattle.browser_commands.proofs.browser.Browser.count_anew.Goals as goal

pub invariant_of-self : goal.invariant_of-self
invariant_of-self c = stands_still c.self.inside c.count_anew.new.self c.self.inside.is_written c.self.inside.submission c.self.invariant (ap (λ (m : KeptMap). m.ifr) c.count_anew.ensures) (ap (λ (m : KeptMap). m.stores) c.count_anew.ensures) (λ e. e) c.self.invariant.asked

pub returns : goal.returns
returns c = ap (with_stores c.self.inside) c.count_anew.ensures ∙ ap opened (seen c.self.view_is)
