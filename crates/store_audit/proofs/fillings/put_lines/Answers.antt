use Rattle.hii_bytes.proofs.WritingLemmas.{◌⨾◌}
use Rattle.store_audit.proofs.fillings.put_lines.Goals as goal

pub returns-clause-text : goal.returns-clause-text
returns-clause-text g c = c.put_fillings.ensures ⨾ c.put_defaults.ensures.text
