use Rattle.object_laws.proofs.OpcodeLemmas.{opcode_back, first_shows}
use Rattle.opcode_audit.specs.Lines.{Setting, said_first}
use Rattle.object_laws.proofs.opcodes.objects_of_opcodes_are_read_back.Goals as goal

pub returns : goal.returns
returns c = λ telling list base place depth op are small byte deep bytes.
    let s : Setting = record { telling = telling; spoken = said_first list; base = base } in opcode_back s place depth op (first_shows list are) small byte deep bytes
