use Rattle.hii_bytes.proofs.WritingLemmas.{◌⨾◌}
use Rattle.question_audit.proofs.depends_facts.put_dependence.Goals as goal

pub returns : goal.returns
returns g c = rw c.word_of.ensures at (c.put_column.ensures ⨾ (c.put_id.ensures ⨾ c.put.ensures ⨾ c.put_question_with.ensures) ⨾ c.put-2.ensures)
