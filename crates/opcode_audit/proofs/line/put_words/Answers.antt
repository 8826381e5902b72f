use Rattle.hii_bytes.proofs.WritingLemmas.{◌⨾◌}
use Rattle.opcode_audit.proofs.line.put_words.Goals as goal

pub returns : goal.returns
returns g c = c.put_name.ensures ⨾ (rw (c.as_slice.ensures.value, c.facts_of.ensures) at c.put_facts.ensures)
