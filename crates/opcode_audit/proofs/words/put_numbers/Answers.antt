use Rattle.std.proofs.lemmas.List.{take_rest}
use Rattle.hii_bytes.proofs.WritingLemmas.{◌⨾◌}
use Rattle.opcode_audit.proofs.NumberLemmas.{numbers_begun, numbers_more}
use Rattle.opcode_audit.proofs.words.put_numbers.Goals as goal

pub loop-rest-init : goal.loop-rest-init
loop-rest-init g c =
    let bytes = c.args.bytes.now in
    numbers_begun bytes _ (take_rest bytes 2) c.in-len2-up.len_at_least (rw c.number_of.ensures at c.put_decimal.ensures)

pub loop-rest-preserved : goal.loop-rest-preserved
loop-rest-preserved g c =
    let rest = c.loop-rest.rest.now in
    numbers_more rest _ (take_rest rest 2) c.in-len2-up-rest.len_at_least c.loop-rest.invariant (c.put.ensures ⨾ (rw c.number_of-in-len2-up-rest.ensures at c.put_decimal-in-len2-up-rest.ensures))
