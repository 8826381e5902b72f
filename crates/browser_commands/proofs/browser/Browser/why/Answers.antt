use Rattle.ifr_nodes.specs.Nodes.{nodes_of}
use Rattle.hii_questions.specs.Fields.{question_with}
use Rattle.hii_questions.specs.code.Views.{question_node}
use Rattle.browser_commands.proofs.FollowLemmas.{why_answered}
use Rattle.browser_commands.proofs.browser.Browser.why.Goals as goal

pub returns : goal.returns
returns c =
    let s = c.args.self.now.state in
    why_answered s (question_with (nodes_of s.ifr) c.args.id) (question_node c.in_ok-question.question) c.question_changeable.result c.in_ok-question.ensures.1
    c.question_changeable.ensures.denied
