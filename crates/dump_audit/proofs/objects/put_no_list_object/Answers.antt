use Rattle.hii_bytes.proofs.WritingLemmas.{◌⨾◌}
use Rattle.dump_audit.proofs.objects.put_no_list_object.Goals as goal

pub returns : goal.returns
returns g c = c.put_kind.ensures ⨾ (c.put_member.ensures ⨾ (c.put.ensures ⨾ c.put_decimal.ensures) ⨾ c.put-2.ensures) ⨾ c.end_object.ensures
