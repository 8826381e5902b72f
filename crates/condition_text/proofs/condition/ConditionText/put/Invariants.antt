use Rattle.std.proofs.Common.{length}
use Rattle.hii_bytes.specs.Watching.{pen_of}
use Rattle.hii_bytes.specs.code.Writing.{Stands}
use Rattle.ifr_expr.specs.Trees.{post}
use Rattle.ifr_expr.specs.code.Expressions.{operators_left, tree_of}
use Rattle.condition_text.specs.code.Streams.{said}
use Rattle.condition_text.proofs.condition.ConditionText.put.Given as goal

-- what stands for the operators before those that are left was written
abbrev pub invariant-loop-op : goal.invariant-loop-op
invariant-loop-op g l =
    Stands (pen_of g.W.Write.contents l.fn.out) (pen_of g.W.Write.contents l.out) (said (post (tree_of l.fn.self.expr))) (said (operators_left l.ops))

abbrev pub decreases-loop-op : goal.decreases-loop-op
decreases-loop-op g l = length (operators_left l.ops)
