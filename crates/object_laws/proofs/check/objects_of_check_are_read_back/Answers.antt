use Rattle.object_laws.proofs.CheckLemmas.{also_back, byte_back, head_back, mostly_back, opcode_at_back}
use Rattle.object_laws.proofs.BehindLemmas.{form_seen_back, good_back, question_seen_back}
use Rattle.object_laws.proofs.check.objects_of_check_are_read_back.Goals as goal

pub returns-clause-head : goal.returns-clause-head
returns-clause-head c = head_back

pub returns-clause-byte : goal.returns-clause-byte
returns-clause-byte c = byte_back

pub returns-clause-opcode : goal.returns-clause-opcode
returns-clause-opcode c = opcode_at_back

pub returns-clause-mostly : goal.returns-clause-mostly
returns-clause-mostly c = mostly_back

pub returns-clause-also : goal.returns-clause-also
returns-clause-also c = also_back

pub returns-clause-form : goal.returns-clause-form
returns-clause-form c = form_seen_back

pub returns-clause-behind : goal.returns-clause-behind
returns-clause-behind c = question_seen_back

pub returns-clause-good : goal.returns-clause-good
returns-clause-good c = good_back
