use Rattle.hii_bytes.proofs.WritingLemmas.{◌⨾◌}
use Rattle.browser_commands.proofs.texts.put_warning.Goals as goal

pub returns : goal.returns
returns g c = rw c.from.ensures at (c.put.ensures ⨾ c.put_place.ensures ⨾ c.put-2.ensures ⨾ c.put_shown.ensures ⨾ c.put-3.ensures)
