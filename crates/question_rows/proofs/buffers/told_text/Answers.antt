use Rattle.std.proofs.Common.{ℕ, ap, ◌∙◌}
use Rattle.std.specs.Global.{Vec}
use Rattle.hii_questions.specs.code.Views.{question_node}
use Rattle.question_audit.specs.QuestionLines.{told_value}
use Rattle.question_audit.specs.code.Pages.{audited}
use Rattle.question_rows.proofs.BufferLemmas.{into_new}
use Rattle.question_rows.proofs.buffers.told_text.Goals as goal

pub returns : goal.returns
returns g c =
    let text = told_value (audited c.args.page) (question_node c.args.question) in
    c.text_in.ensures text
    (into_new c.new-buffer.result c.put_told_value.new.out text (ap (λ (v : Vec ℕ). v.items) c.new-buffer.ensures.inner ∙ c.new.ensures.items) c.new-buffer.ensures.sound c.new-buffer.ensures.none_taken c.put_told_value.ensures)
