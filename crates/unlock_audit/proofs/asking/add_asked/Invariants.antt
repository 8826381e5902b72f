use Rattle.std.proofs.Common.{◌≡◌, drop, map}
use Rattle.std.specs.List.{flat_map}
use Rattle.ifr_nodes.specs.Nodes.{nodes_of}
use Rattle.ifr_scopes.specs.code.Lists.{guard_node}
use Rattle.guard_policy.specs.code.Views.{bytes_of}
use Rattle.unlock_audit.specs.Asking.{ids_in, with_ids}
use Rattle.unlock_audit.proofs.asking.add_asked.Given as goal

-- the ids of the conditions that are left are left to be added
abbrev pub invariant-loop-guard : goal.invariant-loop-guard
invariant-loop-guard l =
    let all = ids_in (nodes_of (bytes_of l.policy)) in
    with_ids l.ids.items (flat_map all (map guard_node (drop l.guard-index l.conditions))) ≡ with_ids l.fn.ids.items (flat_map all (map guard_node l.conditions))
