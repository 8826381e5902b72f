use Rattle.std.proofs.Common.{◌≡◌, ◌∙◌, true, sym}
use Rattle.hii_bytes.proofs.WritingLemmas.{◌⨾◌}
use Rattle.hii_questions.specs.code.Views.{question_view}
use Rattle.guard_policy.specs.Policy.{is_never_changed}
use Rattle.question_audit.proofs.limits_facts.put_outside_fact.Goals as goal

pub returns-then-is_never_changed : goal.returns-then-is_never_changed
returns-then-is_never_changed g c =
    let is : is_never_changed (question_view c.args.question) ≡ true = sym c.is_never_changed.ensures ∙ c.if-is_never_changed.true in
    rw is (c.put_column.ensures ⨾ c.put_outside.ensures ⨾ c.put.ensures)
