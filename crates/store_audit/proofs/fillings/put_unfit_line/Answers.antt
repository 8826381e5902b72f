use Rattle.hii_bytes.proofs.WritingLemmas.{◌⨾◌}
use Rattle.store_audit.proofs.fillings.put_unfit_line.Goals as goal

pub returns : goal.returns
returns g c = c.put.ensures ⨾ c.put_names.ensures ⨾ c.put_reason.ensures ⨾ c.put-2.ensures
