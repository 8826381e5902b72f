use Rattle.std.proofs.Common.{length}
use Rattle.ifr_expr.specs.code.Expressions.{tree_of}
use Rattle.ifr_expr.specs.code.ReferencesLeft.{references_left}
use Rattle.ifr_nodes.proofs.SizeLemmas.{Measures}
use Rattle.ifr_nodes.proofs.rules.RuleTable.size_of.Given as goal

abbrev pub invariant-loop-reference : goal.invariant-loop-reference
invariant-loop-reference l = Measures l.self (tree_of l.expression) (references_left l.references) l.depth l.weight

abbrev pub decreases-loop-reference : goal.decreases-loop-reference
decreases-loop-reference l = length (references_left l.references)
