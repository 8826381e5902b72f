use Rattle.std.proofs.Common.{◌≡◌, ◌==◌, length}
use Rattle.std.specs.List.{list_any}
use Rattle.ifr_opcodes.specs.code.Views.{values_left}
use Rattle.ifr_expr.proofs.evaluation.one_of.Given as goal

abbrev pub invariant-loop-number : goal.invariant-loop-number
invariant-loop-number l = list_any (λ x. x == l.wanted) (values_left l.numbers) ≡ list_any (λ x. x == l.wanted) (values_left l.fn.numbers)

abbrev pub decreases-loop-number : goal.decreases-loop-number
decreases-loop-number l = length (values_left l.numbers)
