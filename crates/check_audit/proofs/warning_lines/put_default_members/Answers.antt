use Rattle.hii_bytes.proofs.WritingLemmas.{◌⨾◌}
use Rattle.check_audit.proofs.warning_lines.put_default_members.Goals as goal

pub returns : goal.returns
returns g c = (rw c.from.ensures at c.put_number.ensures) ⨾ (rw c.from-2.ensures at c.put_number-2.ensures) ⨾ (rw c.denial_word.ensures at c.put_word.ensures)
