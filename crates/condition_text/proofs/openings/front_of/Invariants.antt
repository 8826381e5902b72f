use Rattle.std.proofs.Common.{length}
use Rattle.ifr_expr.specs.code.Expressions.{operators_left}
use Rattle.condition_text.proofs.FrontLemmas.{Counts}
use Rattle.condition_text.proofs.openings.front_of.Given as goal

abbrev pub invariant-loop-op : goal.invariant-loop-op
invariant-loop-op l = Counts (operators_left l.fn.rest) (operators_left l.ops) l.opened l.beside

abbrev pub decreases-loop-op : goal.decreases-loop-op
decreases-loop-op l = length (operators_left l.ops)
