use Rattle.hii_bytes.proofs.WritingLemmas.{◌⨾◌}
use Rattle.question_audit.proofs.fields.put_field_column.Goals as goal

pub returns-in-Some : goal.returns-in-Some
returns-in-Some g c =
    rw c.in-Some.is (c.put_field_text-left.ensures.text ⨾ (rw c.put_field_text-left.ensures.left at c.put_spaces.ensures))
