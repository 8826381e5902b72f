use Rattle.hii_bytes.proofs.WritingLemmas.{◌⨾◌}
use Rattle.browser_commands.proofs.texts.put_count.Goals as goal

pub returns : goal.returns
returns g c = c.put.ensures ⨾ c.put_decimal.ensures ⨾ c.put-2.ensures
