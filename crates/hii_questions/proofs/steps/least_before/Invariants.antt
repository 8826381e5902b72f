use Rattle.std.proofs.Common.{◌≡◌, ◌≤◌, min, drop}
use Rattle.hii_questions.specs.code.Steps.{least_met}
use Rattle.hii_questions.proofs.steps.least_before.Given as goal

-- the least so far, and the least of the steps that are left
abbrev pub invariant-loop-step : goal.invariant-loop-step
invariant-loop-step l = record {
  is : min l.least (least_met l.none l.end (drop l.step-index l.steps)) ≡ least_met l.none l.end l.steps;
  bound : l.least ≤ l.none;
}
