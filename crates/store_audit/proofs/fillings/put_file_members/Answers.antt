use Rattle.hii_bytes.proofs.WritingLemmas.{◌⨾◌}
use Rattle.store_audit.proofs.fillings.put_file_members.Goals as goal

pub returns : goal.returns
returns g c = c.put_file_source.ensures ⨾ (c.put_member.ensures ⨾ c.put_json_str.ensures)
