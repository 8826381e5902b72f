use Rattle.hii_bytes.proofs.WritingLemmas.{◌⨾◌}
use Rattle.question_audit.proofs.script_values.put_list.Goals as goal

pub returns-in-Buffer : goal.returns-in-Buffer
returns-in-Buffer g c =
    rw c.in-Buffer.is (c.put.ensures ⨾ (rw (c.new.ensures, c.element_width.ensures.value) at c.put_items.ensures))
