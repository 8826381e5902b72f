use Rattle.std.proofs.Common.{ap, ◌∙◌}
use Rattle.session_steps.specs.State.{State}
use Rattle.browser_commands.proofs.Browsers.{seen}
use Rattle.browser_commands.proofs.browser.Browser.policy.Goals as goal

pub returns-clause-bytes : goal.returns-clause-bytes
returns-clause-bytes c = c.new.ensures.forms ∙ ap (λ (s : State). s.ifr) (seen c.self.view_is)

pub returns-clause-removed : goal.returns-clause-removed
returns-clause-removed c = c.new.ensures.removed ∙ ap (λ (s : State). s.removed) (seen c.self.view_is)
