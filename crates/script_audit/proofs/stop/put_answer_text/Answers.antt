use Rattle.hii_bytes.proofs.WritingLemmas.{◌⨾◌}
use Rattle.script_audit.proofs.stop.put_answer_text.Goals as goal

pub returns-in-Denied : goal.returns-in-Denied
returns-in-Denied g c =
    rw c.in-Denied.is
    (rw (c.from.ensures, c.as_bytes.ensures.value, c.name.ensures) at (c.put.ensures ⨾ c.put-in-Denied.ensures ⨾ c.put-in-Denied-2.ensures ⨾ c.put_place.ensures ⨾ c.put_message.ensures))
