use Rattle.std.proofs.Common.{ap}
use Rattle.hii_bytes.proofs.WritingLemmas.{◌⨾◌}
use Rattle.condition_text.proofs.WriteLemmas.{written_as}
use Rattle.question_rows.specs.Subjects.{opcode_part}
use Rattle.question_rows.proofs.subjects.put_subject_cell.Goals as goal

pub returns : goal.returns
returns g c =
    let texts =
    rw (c.text.ensures, c.text-2.ensures, c.prompt.ensures, c.help.ensures, c.op-statement.ensures.bytes, c.statement.ensures) at
    (c.put_prompt.ensures ⨾ c.put_help.ensures) in
    texts ⨾ written_as c.put_opcode.ensures (ap opcode_part c.op.ensures.bytes)
