use Rattle.hii_bytes.proofs.WritingLemmas.{◌⨾◌}
use Rattle.browser_commands.proofs.texts.put_denial.Goals as goal

pub returns : goal.returns
returns g c = rw (c.from.ensures, c.as_bytes.ensures.value, c.name.ensures) at (c.put.ensures ⨾ c.put-2.ensures ⨾ c.put-3.ensures ⨾ c.put_place.ensures ⨾ c.put_message.ensures ⨾ c.put-4.ensures)
