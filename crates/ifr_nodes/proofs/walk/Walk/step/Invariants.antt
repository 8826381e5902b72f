use Rattle.std.proofs.Common.{◌≡◌, ◌-◌, length}
use Rattle.ifr_nodes.specs.code.Visits.{left}
use Rattle.ifr_nodes.proofs.walk.Walk.step.Given as goal

abbrev pub invariant-loop-op : goal.invariant-loop-op
invariant-loop-op l = record { left_stays : left l.self ≡ left l.fn.self; package_stays : l.self.bytes.now ≡ l.fn.self.bytes.now }

abbrev pub decreases-loop-op : goal.decreases-loop-op
decreases-loop-op l = length l.self.bytes.now - l.self.at
