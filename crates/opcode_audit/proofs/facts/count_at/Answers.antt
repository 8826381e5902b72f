use Rattle.opcode_audit.proofs.NumberLemmas.{two_bytes}
use Rattle.opcode_audit.proofs.facts.count_at.Goals as goal

pub returns : goal.returns
returns c = rw (c.from.ensures, c.from-2.ensures, c.byte_at.ensures, c.byte_at-2.ensures) (two_bytes c.args.bytes.now c.args.at)
