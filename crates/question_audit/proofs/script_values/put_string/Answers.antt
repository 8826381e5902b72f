use Rattle.hii_bytes.proofs.WritingLemmas.{◌⨾◌}
use Rattle.question_audit.proofs.script_values.put_string.Goals as goal

pub returns-in-Text : goal.returns-in-Text
returns-in-Text g c = rw c.in-Text.is (c.put.ensures ⨾ (rw (c.chars.ensures, c.new.ensures) at c.put_safe_shown.ensures))
