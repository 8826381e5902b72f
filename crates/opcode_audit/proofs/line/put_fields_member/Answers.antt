use Rattle.hii_bytes.proofs.WritingLemmas.{◌⨾◌}
use Rattle.opcode_audit.proofs.line.put_fields_member.Goals as goal

pub returns : goal.returns
returns g c = c.put_member.ensures ⨾ (c.put.ensures ⨾ (rw (c.as_slice.ensures.value, c.facts_of.ensures) at c.put_facts_json.ensures) ⨾ c.put-2.ensures)
