use Rattle.std.proofs.Common.{◌≡◌, length}
use Rattle.ifr_scopes.specs.code.NoSubmitsLeft.{no_submits_left}
use Rattle.guard_policy.specs.code.AskedLeft.{submission_left}
use Rattle.guard_policy.proofs.submission.Submission.step.Given as goal

-- the conditions that were passed are in the scope of what was removed
abbrev pub invariant-loop-nosubmit : goal.invariant-loop-nosubmit
invariant-loop-nosubmit l = submission_left l.self ≡ submission_left l.fn.self

abbrev pub decreases-loop-nosubmit : goal.decreases-loop-nosubmit
decreases-loop-nosubmit l = length (no_submits_left l.self.conditions)
