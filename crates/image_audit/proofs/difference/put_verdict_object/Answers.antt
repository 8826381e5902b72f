use Rattle.hii_bytes.proofs.WritingLemmas.{◌⨾◌}
use Rattle.hii_questions.specs.code.Views.{question_node}
use Rattle.guard_policy.specs.Policy.{fixed}
use Rattle.form_page.specs.code.PageViews.{world_of}
use Rattle.image_audit.proofs.difference.put_verdict_object.Goals as goal

pub returns : goal.returns
returns g c = λ b here there.
    let n = question_node c.args.question in
    c.put_kind.ensures
    ⨾ (c.put_question_members.ensures ⨾ c.put_verdict_member.ensures (fixed (world_of c.args.page) n) here ⨾ c.put_verdict_member-2.ensures (fixed b.world n) there)
    ⨾ c.end_object.ensures
