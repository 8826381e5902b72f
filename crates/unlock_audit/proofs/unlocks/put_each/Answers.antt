use Rattle.std.proofs.Common.{◌+◌, ◌∷◌, ◌∙◌, List, ap, arith, drop, map, sym}
use Rattle.std.proofs.lemmas.List.{at_drop_more}
use Rattle.hii_questions.specs.code.Views.{question_view}
use Rattle.hii_questions.specs.declared.question.Question.{Question}
use Rattle.unlock_audit.proofs.ToldLemmas.{question_more}
use Rattle.unlock_audit.proofs.unlocks.put_each.Goals as goal

pub loop-question-preserved : goal.loop-question-preserved
loop-question-preserved g c =
    let s = c.args.browser.now.state in
    let asked = c.args.asked.now in
    let i = c.loop-question.question-index in
    let inv = c.loop-question.invariant in
    record {
      told = question_more c.args.telling s c.loop-question.browser.state c.loop-question.left _ (map question_view (drop i asked)) (map question_view (drop (i + 1) asked)) _ inv.same
          (at_drop_more (λ (qs : List Question). map question_view qs) asked i c.question-item.result c.loop-question-test.true ∙ ap (λ (x : Question). question_view x ∷ map question_view (drop (i + 1) asked)) (sym c.question-item.is)) inv.told c.in_ok-left.ensures.told;
      few = let before = inv.few in omega (arith, before);
      same = c.put_question.ensures.same ∙ inv.same;
    }
