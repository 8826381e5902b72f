use Rattle.hii_bytes.proofs.WritingLemmas.{◌⨾◌}
use Rattle.check_audit.proofs.warning_lines.put_line.Goals as goal

pub returns : goal.returns
returns g c = c.put.ensures ⨾ (rw c.from.ensures at c.put_place.ensures) ⨾ c.put-2.ensures ⨾ (rw c.word_of.ensures at c.put-3.ensures) ⨾ c.put-4.ensures ⨾ c.put_oddity.ensures ⨾ c.put-5.ensures
