use Rattle.hii_bytes.proofs.WritingLemmas.{◌⨾◌}
use Rattle.question_audit.proofs.formsets.put_flags.Goals as goal

pub returns : goal.returns
returns g c = rw c.flags-flags.ensures at (c.put_word.ensures ⨾ c.put_word-2.ensures)
