use Rattle.std.proofs.Common.{◌≡◌, ◌++◌, length, map}
use Rattle.ifr_nodes.specs.Nodes.{nodes_of}
use Rattle.ifr_scopes.specs.code.Lists.{all_guards_left}
use Rattle.question_audit.specs.code.Naming.{names, naming}
use Rattle.question_audit.proofs.decides_facts.guards_asked.Given as goal

-- what is known of the guards that are left is left to be added
abbrev pub invariant-loop-guard : goal.invariant-loop-guard
invariant-loop-guard l =
    let ns = nodes_of l.forms in
    l.flags.items ++ map (names ns l.id) (all_guards_left l.guards) ≡ naming ns l.id

abbrev pub decreases-loop-guard : goal.decreases-loop-guard
decreases-loop-guard l = length (all_guards_left l.guards)
