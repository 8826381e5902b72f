use Rattle.std.proofs.Common.{◌≡◌, ◌≤◌, length}
use Rattle.kept_conditions.specs.code.Index.{AreGapSteps, EndBy}
use Rattle.kept_conditions.proofs.index.gap_steps.Given as goal

-- the steps so far, and the dependencies that were passed
abbrev pub invariant-loop-step : goal.invariant-loop-step
invariant-loop-step l = record {
  within : l.passed.count ≤ length l.dependencies;
  reach : EndBy l.dependencies l.passed.count l.passed.reach;
  all : length l.steps.items ≡ l.step;
  steps : AreGapSteps l.dependencies l.first l.power l.steps.items;
}
