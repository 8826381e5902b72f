use Rattle.std.proofs.Common.{◌≡◌, length}
use Rattle.std.specs.Prelude.{filter}
use Rattle.ifr_nodes.specs.Locks.{locks_scope}
use Rattle.ifr_nodes.specs.code.Visits.{left}
use Rattle.ifr_scopes.proofs.locks.Locks.step_in.Given as goal

-- the nodes that were met are none of the scope
abbrev pub invariant-loop-met : goal.invariant-loop-met
invariant-loop-met l = record {
  coming : filter (locks_scope l.scope) (left l.self.nodes.walk) ≡ filter (locks_scope l.scope) (left l.fn.self.nodes.walk);
  stays : (l.self.ifr ≡ l.fn.self.ifr) × (l.self.chain ≡ l.fn.self.chain) × (l.self.next ≡ l.fn.self.next) × (l.self.scope ≡ l.fn.self.scope);
}

abbrev pub decreases-loop-met : goal.decreases-loop-met
decreases-loop-met l = length (left l.self.nodes.walk)
