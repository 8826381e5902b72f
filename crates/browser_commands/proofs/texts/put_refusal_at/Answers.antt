use Rattle.hii_bytes.proofs.WritingLemmas.{◌⨾◌}
use Rattle.browser_commands.proofs.texts.put_refusal_at.Goals as goal

pub returns : goal.returns
returns g c = c.put_fault.ensures ⨾ c.put.ensures
