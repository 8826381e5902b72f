use Rattle.hii_bytes.proofs.WritingLemmas.{◌⨾◌}
use Rattle.store_commands.proofs.config.put_bad_words.Goals as goal

pub returns : goal.returns
returns g c = c.put.ensures ⨾ c.put_decimal.ensures ⨾ c.put-2.ensures ⨾ (rw c.part_word.ensures at c.put-3.ensures)
