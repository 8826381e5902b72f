use Rattle.std.proofs.Common.{Option, sym, subst}
use Rattle.std.proofs.lemmas.Result.{err_from_is_err_and}
use Rattle.hii_bytes.specs.Watching.{pen_of, Writes}
use Rattle.hii_bytes.proofs.WritingLemmas.{writes_nil}
use Rattle.ifr_opcodes.specs.Forest.{Node}
use Rattle.ifr_nodes.specs.Nodes.{nodes_of}
use Rattle.hii_values.specs.code.Offers.{offer_of}
use Rattle.hii_questions.specs.Fields.{question_with}
use Rattle.hii_questions.specs.code.Views.{question_node}
use Rattle.session_steps.specs.Step.{set_question}
use Rattle.browser_commands.specs.code.Standing.{written_of}
use Rattle.browser_commands.proofs.ValueLemmas.{sets_named, sets_none}
use Rattle.browser_commands.proofs.browser.Browser.set_named.Goals as goal

pub returns-in_err-question-clause-sets : goal.returns-in_err-question-clause-sets
returns-in_err-question-clause-sets g c =
    let p = err_from_is_err_and c.from_residual.result c.from_residual.ensures.1 in
    rw (p.1, p.2) (sets_none c.args.self.now _ (offer_of c.args.input) _ c.in_err-question.ensures.0 c.in_err-question.ensures.1)

pub returns-in_err-question-clause-text : goal.returns-in_err-question-clause-text
returns-in_err-question-clause-text g c =
    let p = err_from_is_err_and c.from_residual.result c.from_residual.ensures.1 in
    rw p.1 (writes_nil _)

pub set_question-requires-clause-question : goal.set_question-requires-clause-question
set_question-requires-clause-question g c = c.in_ok-question.ensures.0

pub set_question-requires-clause-input : goal.set_question-requires-clause-input
set_question-requires-clause-input g c = c.requires

pub returns-clause-sets : goal.returns-clause-sets
returns-clause-sets g c =
    let s = c.args.self.now in
    sets_named s c.set_question.new.self (question_with (nodes_of s.state.ifr) c.args.id) (question_node c.in_ok-question.question) (offer_of c.args.input) c.set_question.result c.in_ok-question.ensures.1 c.set_question.ensures.changes

pub returns-clause-text : goal.returns-clause-text
returns-clause-text g c =
    let s = c.args.self.now.state in
    subst (λ (q : Option Node). Writes (pen_of g.W.Write.contents c.args.out.now) (pen_of g.W.Write.contents c.set_question.new.out) (written_of (set_question s q (offer_of c.args.input)) c.set_question.result)) (sym c.in_ok-question.ensures.1) c.set_question.ensures.text
