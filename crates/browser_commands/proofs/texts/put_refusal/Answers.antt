use Rattle.hii_bytes.proofs.WritingLemmas.{◌⨾◌}
use Rattle.browser_commands.proofs.texts.put_refusal.Goals as goal

pub returns : goal.returns
returns g c = c.put_cause.ensures ⨾ c.put.ensures
