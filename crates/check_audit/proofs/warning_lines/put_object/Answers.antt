use Rattle.hii_bytes.proofs.WritingLemmas.{◌⨾◌}
use Rattle.check_audit.proofs.warning_lines.put_object.Goals as goal

pub returns : goal.returns
returns g c = c.put_kind.ensures ⨾ ((rw c.from.ensures at c.put_number.ensures) ⨾ (rw c.word_of.ensures at c.put_word.ensures) ⨾ c.put_members.ensures) ⨾ c.end_object.ensures
