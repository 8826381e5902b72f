use Rattle.hii_bytes.proofs.WritingLemmas.{◌⨾◌}
use Rattle.store_commands.proofs.config.put_bad_response.Goals as goal

pub returns : goal.returns
returns g c = c.put_said.ensures ⨾ c.put_bad_words.ensures ⨾ c.end_said.ensures
