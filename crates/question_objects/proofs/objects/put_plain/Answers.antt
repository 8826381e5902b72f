use Rattle.hii_bytes.proofs.WritingLemmas.{◌⨾◌}
use Rattle.question_objects.proofs.objects.put_plain.Goals as goal

pub returns-clause-text : goal.returns-clause-text
returns-clause-text g c = c.put_head.ensures ⨾ c.put_kind.ensures ⨾ c.put_values.ensures.text ⨾ c.put_verdicts.ensures
