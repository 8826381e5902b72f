use Rattle.std.proofs.Common.{ℕ, ap, ◌∙◌}
use Rattle.std.specs.Global.{Vec}
use Rattle.hii_questions.specs.code.Views.{question_view}
use Rattle.question_audit.specs.code.Pages.{audited}
use Rattle.question_rows.specs.Dependences.{answer_words}
use Rattle.question_rows.proofs.BufferLemmas.{into_new}
use Rattle.question_rows.proofs.depends.answer_text.Goals as goal

pub returns : goal.returns
returns g c =
    let text = answer_words (audited c.args.page) (question_view c.args.question) in
    c.text_in.ensures text
    (into_new c.new-buffer.result c.put_answer.new.out text (ap (λ (v : Vec ℕ). v.items) c.new-buffer.ensures.inner ∙ c.new.ensures.items) c.new-buffer.ensures.sound c.new-buffer.ensures.none_taken c.in_ok-put_answer.ensures.told)
