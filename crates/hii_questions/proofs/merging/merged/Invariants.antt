use Rattle.std.proofs.Common.{◌≡◌, ◌++◌, length}
use Rattle.hii_questions.specs.code.Merging.{merge_left}
use Rattle.hii_questions.proofs.merging.merged.Given as goal

-- the steps so far, and those that are left
abbrev pub invariant-loop-step : goal.invariant-loop-step
invariant-loop-step l = l.steps.items ++ merge_left l.merge ≡ merge_left l.initial.merge

abbrev pub decreases-loop-step : goal.decreases-loop-step
decreases-loop-step l = length (merge_left l.merge)
