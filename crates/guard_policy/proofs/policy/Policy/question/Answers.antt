use Rattle.std.proofs.Common.{◌∙◌}
use Rattle.guard_policy.proofs.QuestionLemmas.{question_there}
use Rattle.guard_policy.proofs.policy.Policy.question.Goals as goal

pub returns : goal.returns
returns c =
    let forms = c.args.self.now.forms.now in
    c.of_statement.ensures ∙ rw c.args.self.now.together (question_there forms _ c.args.self.now.accepted.checked.spelled c.requires)
