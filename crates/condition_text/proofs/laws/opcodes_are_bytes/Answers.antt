use Rattle.std.proofs.Common.{◌≡◌, ℕ, ◌+◌, ◌%◌, if◌then◌else◌, List, length, arith}
use Rattle.condition_text.proofs.GoodLemmas.{small_from, length_small}
use Rattle.condition_text.proofs.laws.opcodes_are_bytes.Goals as goal

pub returns : goal.returns
returns c =
    let body : List ℕ = c.args.op.body.now in
    let sized : 2 + length body ≡ ((if c.args.op.scope then 128 else 0) + (2 + length body)) % 128 = omega (arith, c.args.op.whole.sized) in
    (omega (arith, c.ranges.op), (length_small c.args.op.scope (2 + length body) sized, small_from body c.are_bytes.ensures))
