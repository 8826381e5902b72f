use Rattle.std.proofs.Common.{◌≡◌, ◌++◌, length, map}
use Rattle.ifr_nodes.specs.Nodes.{nodes_of}
use Rattle.ifr_scopes.specs.code.Lists.{all_guards_left}
use Rattle.check_audit.specs.code.States.{state_at, states_of}
use Rattle.check_audit.proofs.guard_states.guard_states.Given as goal

-- the states of the guards that are left are left to be added
abbrev pub invariant-loop-guard : goal.invariant-loop-guard
invariant-loop-guard l =
    let ns = nodes_of l.forms in
    l.found.items ++ map (state_at ns) (all_guards_left l.guards) ≡ states_of ns

abbrev pub decreases-loop-guard : goal.decreases-loop-guard
decreases-loop-guard l = length (all_guards_left l.guards)
