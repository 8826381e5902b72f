use Rattle.hii_bytes.proofs.WritingLemmas.{◌⨾◌}
use Rattle.store_commands.proofs.saying.put_no_store.Goals as goal

pub returns : goal.returns
returns g c = c.put_said.ensures ⨾ (c.put.ensures ⨾ (rw c.from.ensures at c.put_decimal.ensures)) ⨾ c.end_said.ensures
