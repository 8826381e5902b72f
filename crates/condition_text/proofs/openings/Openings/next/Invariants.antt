use Rattle.std.proofs.Common.{◌≡◌, length}
use Rattle.ifr_expr.specs.code.Expressions.{operators_left}
use Rattle.condition_text.specs.code.OpeningsLeft.{openings_left}
use Rattle.condition_text.proofs.openings.Openings.next.Given as goal

-- What operators put before the operand is as it was.
abbrev pub invariant-loop-op : goal.invariant-loop-op
invariant-loop-op l = openings_left l.self ≡ openings_left l.fn.self

abbrev pub decreases-loop-op : goal.decreases-loop-op
decreases-loop-op l = length (operators_left l.self.ops)
