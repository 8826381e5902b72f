use Rattle.std.proofs.Common.{◌≡◌, ◌++◌, length}
use Rattle.std.specs.List.{flat_map}
use Rattle.ifr_nodes.specs.Nodes.{nodes_of}
use Rattle.ifr_scopes.specs.code.Lists.{all_guards_left}
use Rattle.check_audit.specs.Warnings.{named_in, asks_of_guards}
use Rattle.check_audit.proofs.asks.add_of_guards.Given as goal

-- with those of what is left all are added
abbrev pub invariant-loop-guard : goal.invariant-loop-guard
invariant-loop-guard l =
    l.warnings.items ++ flat_map (named_in (nodes_of l.fn.forms)) (all_guards_left l.guards) ≡ l.fn.warnings.items ++ asks_of_guards (nodes_of l.fn.forms)

abbrev pub decreases-loop-guard : goal.decreases-loop-guard
decreases-loop-guard l = length (all_guards_left l.guards)
