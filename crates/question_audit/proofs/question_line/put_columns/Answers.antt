use Rattle.std.proofs.Common.{ap}
use Rattle.hii_bytes.proofs.WritingLemmas.{◌⨾◌}
use Rattle.ifr_opcodes.specs.Opcode.{number}
use Rattle.hii_questions.specs.code.Views.{question_node}
use Rattle.guard_policy.specs.Policy.{fixed}
use Rattle.form_page.specs.code.PageViews.{world_of}
use Rattle.question_audit.proofs.question_line.put_columns.Goals as goal

pub returns : goal.returns
returns g c =
    let code = ap number c.op.ensures.bytes in
    rw (c.from.ensures, c.id.ensures, c.opcode_name.ensures, code, c.requires.names, c.field.ensures.found) at
    (c.put_decimal_right.ensures ⨾ c.put.ensures ⨾ c.put_verdict.ensures (fixed (world_of c.args.page) (question_node c.args.question)) c.requires.verdict ⨾ c.put-2.ensures
    ⨾ c.put_left.ensures ⨾ c.put-3.ensures ⨾ c.put_field_column.ensures ⨾ c.put-4.ensures)
