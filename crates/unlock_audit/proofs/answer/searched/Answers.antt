use Rattle.std.proofs.Common.{List, ℕ, ap, ◌∙◌}
use Rattle.std.specs.Prelude.{◌==◌}
use Rattle.ifr_nodes.specs.Nodes.{nodes_of}
use Rattle.hii_questions.specs.code.Views.{question_view}
use Rattle.guard_policy.specs.declared.policy.Policy.{Policy}
use Rattle.session_steps.specs.State.{State}
use Rattle.unlock_audit.specs.Moves.{moves}
use Rattle.unlock_audit.specs.Tries.{opens, tries}
use Rattle.unlock_audit.specs.Unlock.{answer_with, unfound}
use Rattle.unlock_audit.specs.code.Answers.{answer_meant}
use Rattle.unlock_audit.specs.code.Askings.{asking_meant}
use Rattle.unlock_audit.specs.code.Tallies.{tally_meant}
use Rattle.unlock_audit.proofs.AnswerLemmas.{searched_is, tried_few}
use Rattle.unlock_audit.proofs.answer.searched.Goals as goal

pub returns-clause-meant : goal.returns-clause-meant
returns-clause-meant c =
    let s = c.args.browser.now.state in
    let a = asking_meant c.args.asking in
    let ms = c.as_slice.result.now in
    let t = tally_meant c.try_all.new.tally in
    let forms = c.forms.ensures ∙ ap (λ (p : Policy). p.forms.now) c.policy.ensures ∙ c.page-page.ensures.bytes in
    let same = c.as_slice.ensures.value ∙ c.in_ok-moves.ensures ∙ ap (λ (b : List ℕ). moves (nodes_of b) a) forms in
    let answer = c.answer_of-answer.ensures.meant ∙ ap (λ (st : State). answer_with c.args.again (unfound st ms (t.left == 0)) t.found) c.try_all.ensures.same in
    searched_is s c.args.most (question_view c.args.question) c.args.verdict a ms c.args.again c.id.result (tally_meant c.new-tally.result) t (answer_meant c.answer_of-answer.result) same c.requires.again c.id.ensures c.new-tally.ensures c.in_ok-try_all.ensures.tried answer

pub returns-clause-few : goal.returns-clause-few
returns-clause-few c =
    let s = c.args.browser.now.state in
    tried_few (opens c.args.again s c.id.result) c.args.most (tries s c.as_slice.result.now) (tally_meant c.new-tally.result) (tally_meant c.try_all.new.tally) c.new-tally.ensures c.in_ok-try_all.ensures.tried
