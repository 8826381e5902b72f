use Rattle.std.proofs.Common.{◌≤◌, length}
use Rattle.ifr_expr.specs.code.Expressions.{tree_of}
use Rattle.ifr_expr.specs.code.ReferencesLeft.{references_left}
use Rattle.package_faults.proofs.RuleLemmas.{Measures}
use Rattle.package_faults.proofs.met_rules.MetRules.size_of.Given as goal

abbrev pub invariant-loop-reference : goal.invariant-loop-reference
invariant-loop-reference l = record {
  measures : Measures l.self (tree_of l.expression) (references_left l.references) l.depth l.weight;
  small : l.weight ≤ 4097;
}

abbrev pub decreases-loop-reference : goal.decreases-loop-reference
decreases-loop-reference l = length (references_left l.references)
