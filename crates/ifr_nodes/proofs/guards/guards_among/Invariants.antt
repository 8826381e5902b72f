use Rattle.std.proofs.Common.{◌≡◌, ◌≤◌, ◌++◌, [], length, map, take, drop}
use Rattle.ifr_opcodes.specs.code.Marks.{ancestor_at}
use Rattle.ifr_nodes.specs.Guards.{guards_among, nodes_on}
use Rattle.ifr_nodes.specs.code.Kept.{kept_guard}
use Rattle.ifr_nodes.specs.Nodes.{this_among}
use Rattle.ifr_nodes.proofs.guards.guards_among.Given as goal

abbrev pub invariant-loop-place : goal.invariant-loop-place
invariant-loop-place l = record {
  found : l.guards.items ++ map kept_guard (guards_among (nodes_on (map (ancestor_at l.ifr) (take l.place-index l.places)) (map (ancestor_at l.ifr) (drop l.place-index l.places)))) ≡ map kept_guard (guards_among (nodes_on [] (map (ancestor_at l.ifr) l.places)));
  few : length l.guards.items ≤ l.place-index;
  within : l.this ≡ this_among (map (ancestor_at l.ifr) (take l.place-index l.places));
}
