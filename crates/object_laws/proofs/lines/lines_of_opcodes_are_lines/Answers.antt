use Rattle.opcode_audit.specs.Lines.{Setting, said_first}
use Rattle.object_laws.proofs.ObjectLineLemmas.{opcode_line_is_line}
use Rattle.object_laws.proofs.OpcodeLemmas.{first_shows}
use Rattle.object_laws.proofs.lines.lines_of_opcodes_are_lines.Goals as goal

pub returns : goal.returns
returns c = λ telling list base place depth op are bytes.
    let s : Setting = record { telling = telling; spoken = said_first list; base = base } in opcode_line_is_line s place depth op (first_shows list are) bytes
