use Rattle.std.proofs.Common.{ap, ◌∙◌}
use Rattle.guard_policy.specs.Policy.{unsubmitted}
use Rattle.guard_policy.specs.code.Answers.{unless}
use Rattle.session_steps.specs.State.{State, world_of}
use Rattle.browser_commands.proofs.Browsers.{seen}
use Rattle.browser_commands.proofs.browser.Browser.may_submit.Goals as goal

pub returns-in-Some : goal.returns-in-Some
returns-in-Some c = c.self.invariant.asked c.in-Some.answer c.in-Some.is ∙ ap (λ (s : State). unless (unsubmitted (world_of s))) (seen c.self.view_is)

pub returns-in-None : goal.returns-in-None
returns-in-None c = rw (c.policy.ensures.bytes, c.policy.ensures.removed, ap (λ (s : State). s.working) (seen c.self.view_is)) at c.may_submit.ensures
