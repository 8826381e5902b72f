use Rattle.hii_bytes.proofs.WritingLemmas.{◌⨾◌}
use Rattle.question_rows.proofs.subjects.put_prompt.Goals as goal

pub returns : goal.returns
returns g c = c.put.ensures ⨾ c.put_prompt_words.ensures ⨾ c.put-2.ensures
