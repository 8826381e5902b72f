use Rattle.std.proofs.Common.{◌<◌, ◌^◌, length, arith}
use Rattle.std.proofs.lemmas.Grind.{common_steps}
use Rattle.hii_bytes.proofs.DigitLemmas.{digit_read, digit_refused, digits_read}
use Rattle.hii_bytes.proofs.digits.number_of_digits.Goals as goal

pub returns-in_err-number : goal.returns-in_err-number
returns-in_err-number c =
    rw c.from_residual.ensures (digit_refused c.args.radix c.args.most c.args.text.now c.loop-byte.byte-index c.loop-byte.number (grind (arith, c.requires)) (omega arith) c.loop-byte.invariant.0.1 c.in_err-number.ensures)

pub loop-byte-preserved : goal.loop-byte-preserved
loop-byte-preserved c =
    let read = c.in_ok-number.ensures in
    let small : c.in_ok-number.number < 2 ^ 64 = rw read.1 read.0.1 in
    (rw read.1 (digit_read c.args.radix c.args.text.now c.loop-byte.byte-index c.loop-byte.number (omega arith) c.loop-byte.invariant.0 read.0.0), small)

pub returns : goal.returns
returns c =
    let some : 0 < length c.args.text.now = grind (arith, common_steps) in
    digits_read c.args.radix c.args.most c.args.text.now c.loop-byte.byte-index c.loop-byte.number some (omega arith) (omega arith) c.loop-byte.invariant.0 c.loop-byte.invariant.1
