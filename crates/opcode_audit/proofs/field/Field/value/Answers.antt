use Rattle.std.proofs.Common.{arith}
use Rattle.hii_bytes.proofs.NumberLemmas.{number_in-lt}
use Rattle.opcode_audit.proofs.field.Field.value.Goals as goal

pub overflow_cast-result : goal.overflow_cast-result
overflow_cast-result c = omega (arith, number_in-lt c.args.bytes.now 0 2 (λ i. omega (arith, c.type_inv.bytes i)), c.number_of-in-Text.ensures)
