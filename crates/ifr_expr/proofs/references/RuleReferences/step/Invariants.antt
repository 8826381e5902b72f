use Rattle.std.proofs.Common.{◌≡◌, length}
use Rattle.ifr_expr.specs.code.Expressions.{operators_left}
use Rattle.ifr_expr.specs.code.ReferencesLeft.{references_left}
use Rattle.ifr_expr.proofs.references.RuleReferences.step.Given as goal

abbrev pub invariant-loop-op : goal.invariant-loop-op
invariant-loop-op l = references_left l.self ≡ references_left l.fn.self

abbrev pub decreases-loop-op : goal.decreases-loop-op
decreases-loop-op l = length (operators_left l.self.ops)
