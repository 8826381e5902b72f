use Rattle.std.proofs.Common.{◌≡◌, ◌+◌, length}
use Rattle.ifr_expr.specs.code.Checked.{marks}
use Rattle.ifr_expr.specs.code.OpcodesLeft.{opcodes_left}
use Rattle.ifr_expr.proofs.expr.Expr.len.Given as goal

abbrev pub invariant-loop-op : goal.invariant-loop-op
invariant-loop-op l = l.count + length (opcodes_left l.ops) ≡ length (marks l.self.place l.self.bytes.now)

abbrev pub decreases-loop-op : goal.decreases-loop-op
decreases-loop-op l = length (opcodes_left l.ops)
