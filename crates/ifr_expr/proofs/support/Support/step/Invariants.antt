use Rattle.std.proofs.Common.{◌≡◌, length}
use Rattle.ifr_expr.specs.code.NamesLeft.{names_left}
use Rattle.ifr_expr.specs.code.Supports.{ids_left}
use Rattle.ifr_expr.proofs.support.Support.step.Given as goal

abbrev pub invariant-loop-name : goal.invariant-loop-name
invariant-loop-name l = ids_left l.self ≡ ids_left l.fn.self

abbrev pub decreases-loop-name : goal.decreases-loop-name
decreases-loop-name l = length (names_left l.self.names)
