use Rattle.opcode_audit.proofs.TellingLemmas.{tells}
use Rattle.opcode_audit.proofs.laws.lines_tell_the_package.Goals as goal

pub returns : goal.returns
returns c = tells
