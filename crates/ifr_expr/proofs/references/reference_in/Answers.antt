use Rattle.std.proofs.Common.{◌≤◌, length, subst}
use Rattle.ifr_opcodes.specs.code.Ops.{bytes_of}
use Rattle.ifr_opcodes.specs.code.Tables.{row_length}
use Rattle.ifr_opcodes.proofs.SizeLemmas.{all_there}
use Rattle.ifr_expr.proofs.references.reference_in.Goals as goal

pub invariant_of-view : goal.invariant_of-view
invariant_of-view c =
    let op = bytes_of c.args.op in
    let same = c.if-op-ne-RULE_REF.false in
    record { coded = same; sized = subst (λ k. row_length k op ≤ length op) same (all_there op c.args.op.whole.long c.requires.sized) }
