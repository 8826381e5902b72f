use Rattle.object_laws.proofs.LineLemmas.{also_is_line, behind_is_line, byte_is_line, form_is_line, good_is_line, head_is_line, mostly_is_line, opcode_is_line}
use Rattle.object_laws.proofs.lines.lines_of_check_are_lines.Goals as goal

pub returns-clause-head : goal.returns-clause-head
returns-clause-head c = head_is_line

pub returns-clause-good : goal.returns-clause-good
returns-clause-good c = good_is_line

pub returns-clause-byte : goal.returns-clause-byte
returns-clause-byte c = byte_is_line

pub returns-clause-opcode : goal.returns-clause-opcode
returns-clause-opcode c = opcode_is_line

pub returns-clause-form : goal.returns-clause-form
returns-clause-form c = form_is_line

pub returns-clause-behind : goal.returns-clause-behind
returns-clause-behind c = behind_is_line

pub returns-clause-mostly : goal.returns-clause-mostly
returns-clause-mostly c = mostly_is_line

pub returns-clause-also : goal.returns-clause-also
returns-clause-also c = also_is_line
