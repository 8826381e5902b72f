use Rattle.std.proofs.Common.{◌≡◌, ◌++◌, length, map}
use Rattle.std.specs.Prelude.{filter}
use Rattle.ifr_opcodes.specs.Forest.{Node}
use Rattle.ifr_scopes.specs.code.Lists.{all_guards_left}
use Rattle.ifr_nodes.specs.Nodes.{nodes_of}
use Rattle.guard_policy.specs.World.{is_disabling, removed_at}
use Rattle.guard_policy.specs.code.RuleValues.{AreRuleValues}
use Rattle.guard_policy.proofs.removed.Removed.at_open.Given as goal

-- the places so far, with those of the guards that are left
abbrev pub invariant-loop-guard : goal.invariant-loop-guard
invariant-loop-guard l =
    let ns = nodes_of l.forms in
    record {
      places : l.places.items ++ map (λ (n : Node). n.place) (filter (is_disabling ns l.stores) (all_guards_left l.guards)) ≡ removed_at ns l.stores;
      kept : AreRuleValues l.forms l.stores l.rules;
    }

abbrev pub decreases-loop-guard : goal.decreases-loop-guard
decreases-loop-guard l = length (all_guards_left l.guards)
