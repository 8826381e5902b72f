use Rattle.hii_bytes.proofs.WritingLemmas.{◌⨾◌}
use Rattle.image_audit.proofs.value_objects.put_value_object.Goals as goal

pub returns : goal.returns
returns g c =
    let range = rw (c.requires.names, c.field.ensures.found) at c.put_range_member.ensures in
    c.put_kind.ensures ⨾ (c.put_question_members.ensures ⨾ range ⨾ c.put_values_members.ensures) ⨾ c.end_object.ensures
