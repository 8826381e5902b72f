use Rattle.std.proofs.Common.{◌≤◌, length, IfOk}
use Rattle.ifr_expr.specs.code.Checked.{marks}
use Rattle.ifr_expr.specs.code.OpcodesLeft.{opcodes_left}
use Rattle.ifr_expr.specs.code.Bytes.{opcodes_of}
use Rattle.ifr_expr.proofs.CheckLemmas.{Stands}
use Rattle.ifr_expr.proofs.expr.Expr.check.Given as goal

abbrev pub invariant-loop-op : goal.invariant-loop-op
invariant-loop-op l = record {
  stands : Stands l.from (opcodes_of l.from l.bytes) (marks l.from l.bytes) (opcodes_left l.ops) l.values;
  few : IfOk l.values (λ n. n ≤ 64);
}

abbrev pub decreases-loop-op : goal.decreases-loop-op
decreases-loop-op l = length (opcodes_left l.ops)
