use Rattle.dump_audit.proofs.TextLemmas.{one_text}
use Rattle.dump_audit.proofs.laws.a_dump_has_one_text.Goals as goal

pub returns : goal.returns
returns c = one_text
