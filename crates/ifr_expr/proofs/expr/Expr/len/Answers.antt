use Rattle.std.proofs.Common.{List, length, ap, arith}
use Rattle.ifr_opcodes.specs.Forest.{Mark}
use Rattle.ifr_expr.proofs.LengthLemmas.{few_marks}
use Rattle.ifr_expr.proofs.expr.Expr.len.Goals as goal

pub overflow_add-count : goal.overflow_add-count
overflow_add-count c =
    let expr = c.args.self in
    omega (arith, c.loop-op.invariant, ap (λ (l : List Mark). length l) c.in-Some.ensures.steps, few_marks expr.place expr.bytes.now expr.checked.opcodes, expr.checked.small)
