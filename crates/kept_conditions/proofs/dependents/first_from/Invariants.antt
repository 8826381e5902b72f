use Rattle.std.proofs.Common.{◌≡◌, ◌+◌, ◌-◌, ◌≤◌, drop, length}
use Rattle.kept_conditions.specs.code.Dependents.{passed}
use Rattle.kept_conditions.proofs.dependents.first_from.Given as goal

-- those so far were passed
abbrev pub invariant-loop-next : goal.invariant-loop-next
invariant-loop-next l = record {
  within : l.next ≤ length l.dependents;
  same : l.next + passed l.place (drop l.next l.dependents) ≡ l.from + passed l.place (drop l.from l.dependents);
}

abbrev pub decreases-loop-next : goal.decreases-loop-next
decreases-loop-next l = length l.dependents - l.next
