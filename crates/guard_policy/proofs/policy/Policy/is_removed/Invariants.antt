use Rattle.std.proofs.Common.{◌≡◌}
use Rattle.std.specs.List.{list_any}
use Rattle.ifr_nodes.specs.Guards.{guards}
use Rattle.ifr_scopes.specs.code.Lists.{outward_left}
use Rattle.ifr_scopes.specs.code.NoSubmitsLeft.{no_submit_node}
use Rattle.guard_policy.specs.Policy.{is_removed}
use Rattle.guard_policy.proofs.policy.Policy.is_removed.Given as goal

-- the guards that were met were not removed
abbrev pub invariant-loop-guard : goal.invariant-loop-guard
invariant-loop-guard l =
    let which = is_removed l.self.removed.now in
    record {
      can : goal.iterator-loop-guard.can_next l.guards;
      ends : goal.iterator-loop-guard.is_finite l.guards;
      same : list_any which (outward_left l.guards) ≡ list_any which (guards (no_submit_node l.nosubmit));
    }
