use Rattle.std.proofs.Common.{◌≡◌, true, false, sym, ◌∙◌}
use Rattle.hii_bytes.proofs.WritingLemmas.{◌⨾◌, writes_nil}
use Rattle.hii_questions.specs.code.Views.{question_node}
use Rattle.question_audit.specs.QuestionLines.{has_no_text, value_told}
use Rattle.question_audit.specs.code.Pages.{audited}
use Rattle.question_objects.proofs.values.put_shown_value.Goals as goal

pub returns-then-not-shows_nothing : goal.returns-then-not-shows_nothing
returns-then-not-shows_nothing g c =
    let some : has_no_text (value_told (audited c.args.page) (question_node c.args.question)) ≡ false = sym c.shows_nothing.ensures ∙ c.if-not-shows_nothing.true in
    rw some (c.put_member.ensures ⨾ c.put_json_value.ensures)

pub returns-else-not-shows_nothing : goal.returns-else-not-shows_nothing
returns-else-not-shows_nothing g c =
    let none : has_no_text (value_told (audited c.args.page) (question_node c.args.question)) ≡ true = sym c.shows_nothing.ensures ∙ c.if-not-shows_nothing.false in
    rw none (writes_nil _)
