use Rattle.hii_bytes.proofs.WritingLemmas.{◌⨾◌}
use Rattle.opcode_audit.proofs.words.put_fact_json.Goals as goal

pub returns : goal.returns
returns g c = c.put.ensures ⨾ (rw c.text.ensures at c.put-2.ensures) ⨾ c.put-3.ensures ⨾ c.put_value_json.ensures ⨾ c.put_text_json.ensures
