use Rattle.hii_bytes.proofs.WritingLemmas.{◌⨾◌}
use Rattle.question_objects.proofs.heads.put_texts.Goals as goal

pub returns : goal.returns
returns g c =
    rw (c.text.ensures, c.prompt.ensures, c.text-2.ensures, c.help.ensures, c.op-op.ensures.bytes, c.statement.ensures) at (c.put_text.ensures ⨾ c.put_text-2.ensures)
