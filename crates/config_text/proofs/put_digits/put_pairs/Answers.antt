use Rattle.std.proofs.Common.{◌/◌, ◌<◌, ◌≤◌, length, arith}
use Rattle.hii_bytes.specs.Texts.{hex_of}
use Rattle.config_text.specs.code.PartReading.{group_numbers}
use Rattle.config_text.proofs.ReadLemmas.{length_groups}
use Rattle.config_text.proofs.WriteLemmas.{one_more, all_written}
use Rattle.config_text.proofs.put_digits.put_pairs.Goals as goal

pub loop-place-preserved : goal.loop-place-preserved
loop-place-preserved g c =
    let digits = c.args.digits.now in
    let less : c.loop-place.place < length (group_numbers 2 digits) = omega (arith, length_groups (length digits / 2) 2 digits, c.loop-place-test.true) in
    one_more hex_of (group_numbers 2 digits) c.loop-place.place less c.loop-place.invariant (rw c.group_at.ensures.number at c.put_byte.ensures)

pub returns : goal.returns
returns g c =
    let digits = c.args.digits.now in
    let all : length (group_numbers 2 digits) ≤ c.loop-place.place = omega (arith, length_groups (length digits / 2) 2 digits, c.loop-place-test.false) in
    all_written hex_of (group_numbers 2 digits) c.loop-place.place all c.loop-place.invariant
