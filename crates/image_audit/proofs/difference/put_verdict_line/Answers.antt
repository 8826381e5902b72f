use Rattle.hii_bytes.proofs.WritingLemmas.{◌⨾◌}
use Rattle.hii_questions.specs.code.Views.{question_node}
use Rattle.guard_policy.specs.Policy.{fixed}
use Rattle.form_page.specs.code.PageViews.{world_of}
use Rattle.image_audit.proofs.difference.put_verdict_line.Goals as goal

pub returns : goal.returns
returns g c = λ b here there.
    let n = question_node c.args.question in
    rw (c.from.ensures, c.id.ensures, c.chars.ensures, c.text.ensures, c.prompt.ensures, c.op.ensures.bytes, c.statement.ensures) at
    (c.put.ensures ⨾ c.put_decimal.ensures ⨾ c.put-2.ensures ⨾ c.put_verdict.ensures (fixed (world_of c.args.page) n) here ⨾ c.put-3.ensures ⨾ c.put_verdict-2.ensures (fixed b.world n) there
    ⨾ c.put-4.ensures ⨾ c.put_safe_shown.ensures ⨾ c.put-5.ensures)
