use Rattle.hii_bytes.proofs.WritingLemmas.{◌⨾◌}
use Rattle.store_audit.proofs.fillings.put_config_members.Goals as goal

pub returns-in-Some : goal.returns-in-Some
returns-in-Some g c = rw c.in-Some.is (c.put_word.ensures ⨾ (rw c.deref.ensures.value at c.put_string.ensures))
