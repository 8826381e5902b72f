use Rattle.std.proofs.Common.{◌∙◌, sym}
use Rattle.opcode_audit.proofs.TailLemmas.{of_list}
use Rattle.opcode_audit.proofs.facts.tail_of.Goals as goal

pub returns-in-20 : goal.returns-in-20
returns-in-20 c = (rw c.count_at.ensures at c.values_listed.ensures) ∙ sym (of_list c.args.opcode.now c.in-20.is)
