use Rattle.hii_bytes.proofs.WritingLemmas.{◌⨾◌}
use Rattle.script_audit.proofs.stop.put_answer.Goals as goal

pub returns : goal.returns
returns g c = c.put_front.ensures ⨾ c.put_answer_text.ensures ⨾ c.put_back.ensures
