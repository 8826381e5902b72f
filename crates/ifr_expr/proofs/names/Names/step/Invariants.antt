use Rattle.std.proofs.Common.{◌≡◌, None, length}
use Rattle.ifr_expr.specs.code.Expressions.{operators_left}
use Rattle.ifr_expr.specs.code.NamesLeft.{names_left}
use Rattle.ifr_expr.proofs.names.Names.step.Given as goal

abbrev pub invariant-loop-op : goal.invariant-loop-op
invariant-loop-op l = record { same : names_left l.self ≡ names_left l.fn.self; second : l.self.second ≡ None }

abbrev pub decreases-loop-op : goal.decreases-loop-op
decreases-loop-op l = length (operators_left l.self.ops)
