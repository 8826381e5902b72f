use Rattle.std.proofs.Common.{◌≡◌, ◌+◌, ◌≤◌, ◌++◌, length, map}
use Rattle.std.specs.Prelude.{reverse}
use Rattle.ifr_nodes.specs.Nodes.{nodes_of}
use Rattle.ifr_index.specs.code.Tables.{guard_of_number, guards_from, IsNumber, AreNumbers}
use Rattle.ifr_scopes.proofs.guards_outward.GuardsOutward.outermost_first.Given as goal

-- the guards from the next number, and those of the numbers so far
abbrev pub invariant-loop-next : goal.invariant-loop-next
invariant-loop-next l = record {
  all : guards_from (nodes_of l.self.ifr.now) l.next ++ map (guard_of_number (nodes_of l.self.ifr.now)) (reverse l.numbers.items) ≡ guards_from (nodes_of l.self.ifr.now) l.self.next;
  next : IsNumber (nodes_of l.self.ifr.now) l.next;
  numbered : AreNumbers (nodes_of l.self.ifr.now) l.numbers.items;
  few : length (guards_from (nodes_of l.self.ifr.now) l.next) + length l.numbers.items ≤ 64;
}

abbrev pub decreases-loop-next : goal.decreases-loop-next
decreases-loop-next l = length (guards_from (nodes_of l.self.ifr.now) l.next)
