use Rattle.std.proofs.Common.{◌≡◌, List, ◌++◌, length}
use Rattle.ifr_opcodes.specs.Forest.{Mark}
use Rattle.ifr_expr.specs.Trees.{post}
use Rattle.ifr_expr.specs.code.Expressions.{tree_of, operators_left}
use Rattle.condition_text.proofs.GoodLemmas.{HaveSmall}
use Rattle.condition_text.proofs.laws.checked_expressions_have_good_senses.Given as goal

-- the operators before those that are left are spelled in bytes
abbrev pub invariant-loop-op : goal.invariant-loop-op
invariant-loop-op l = (before : List Mark) × HaveSmall before × (before ++ operators_left l.ops ≡ post (tree_of l.expr))

abbrev pub decreases-loop-op : goal.decreases-loop-op
decreases-loop-op l = length (operators_left l.ops)
