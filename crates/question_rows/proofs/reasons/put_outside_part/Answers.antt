use Rattle.std.proofs.Common.{◌≡◌, ◌∙◌, true, sym}
use Rattle.hii_bytes.proofs.WritingLemmas.{◌⨾◌}
use Rattle.hii_questions.specs.code.Views.{question_view}
use Rattle.guard_policy.specs.Policy.{is_never_changed}
use Rattle.question_rows.proofs.reasons.put_outside_part.Goals as goal

pub returns-then-is_never_changed : goal.returns-then-is_never_changed
returns-then-is_never_changed g c =
    let is : is_never_changed (question_view c.args.question) ≡ true = sym c.is_never_changed.ensures ∙ c.if-is_never_changed.true in
    rw is (c.put.ensures ⨾ c.put_outside.ensures ⨾ c.put-then-is_never_changed.ensures)
