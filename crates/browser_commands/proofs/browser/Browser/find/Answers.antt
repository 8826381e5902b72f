use Rattle.std.proofs.Common.{Ok, subst}
use Rattle.hii_questions.specs.code.Views.{question_view}
use Rattle.session_steps.specs.State.{State}
use Rattle.browser_commands.specs.code.Standing.{Finds}
use Rattle.ifr_nodes.specs.Nodes.{nodes_of}
use Rattle.hii_questions.specs.Fields.{question_with}
use Rattle.std.proofs.Common.{◌≡◌, None}
use Rattle.browser_commands.proofs.SetLemmas.{is_question_of, no_question_of}
use Rattle.browser_commands.proofs.Browsers.{seen}
use Rattle.browser_commands.proofs.browser.Browser.find.Goals as goal

pub returns-in-Some : goal.returns-in-Some
returns-in-Some c =
    subst (λ (s : State). Finds s c.args.id (Ok c.in-Some.question)) (seen c.self.view_is)
    (is_question_of c.self.inside.forms c.self.inside.questions.ifr c.args.id (question_view c.in-Some.question) c.self.invariant.browsable.accepted c.self.invariant.together c.in-Some.question.asks c.in-Some.ensures)

pub returns-in-None : goal.returns-in-None
returns-in-None c = (
  subst (λ (s : State). question_with (nodes_of s.ifr) c.args.id ≡ None) (seen c.self.view_is)
      (no_question_of c.self.inside.forms c.self.inside.questions.ifr c.args.id c.self.invariant.together c.in-None.ensures),
  c.by.ensures,
)
