use Rattle.hii_bytes.proofs.WritingLemmas.{◌⨾◌}
use Rattle.script_audit.proofs.depends.put_dependence.Goals as goal

pub returns : goal.returns
returns g c = c.put_front.ensures ⨾ c.put_id.ensures ⨾ c.put.ensures ⨾ c.put_question_with.ensures ⨾ c.put_back.ensures
