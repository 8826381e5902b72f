use Rattle.std.proofs.Common.{◌≤◌}
use Rattle.check_audit.proofs.constants.constants_count.Given as goal

-- no more are counted than were met
abbrev pub invariant-loop-state : goal.invariant-loop-state
invariant-loop-state l = l.count ≤ l.state-index
