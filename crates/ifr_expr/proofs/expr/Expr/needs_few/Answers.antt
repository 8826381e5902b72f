use Rattle.std.proofs.Common.{◌+◌, ◌*◌, ◌<◌, length, arith}
use Rattle.std.proofs.lemmas.Bool.{ltb-true}
use Rattle.ifr_expr.proofs.LengthLemmas.{few_values}
use Rattle.ifr_expr.proofs.expr.Expr.needs_few.Goals as goal

pub returns : goal.returns
returns c = λ short.
    let it = c.args.self in
    let few : length it.bytes.now < 4 * c.args.count + 2 = ltb-true (length it.bytes.now) (4 * c.args.count + 2) short in
    omega (arith, few_values it.place it.bytes.now it.checked)
