use Rattle.std.proofs.Common.{◌≡◌, ◌++◌, length, map}
use Rattle.ifr_nodes.specs.Nodes.{nodes_of}
use Rattle.check_audit.specs.Constants.{constant_at, constant_warnings}
use Rattle.check_audit.specs.code.States.{AreStatesOf, constants_left}
use Rattle.check_audit.proofs.constants.add_constants.Given as goal

-- with those that are left all are added
abbrev pub invariant-loop-guard : goal.invariant-loop-guard
invariant-loop-guard l =
    let ns = nodes_of l.ifr in
    record {
      told : AreStatesOf ns l.guards;
      added : l.warnings.items ++ map (constant_at ns) (constants_left ns l.guards) ≡ l.fn.warnings.items ++ constant_warnings ns;
    }

abbrev pub decreases-loop-guard : goal.decreases-loop-guard
decreases-loop-guard l = length (constants_left (nodes_of l.ifr) l.guards)
