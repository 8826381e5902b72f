use Rattle.std.proofs.Common.{sym, ap, ◌∙◌}
use Rattle.ifr_opcodes.specs.Forest.{Node}
use Rattle.guard_policy.specs.Policy.{fixed}
use Rattle.guard_policy.specs.code.Answers.{unless}
use Rattle.guard_policy.specs.code.Surroundings.{answer_of}
use Rattle.guard_policy.specs.code.Views.{world_by}
use Rattle.guard_policy.specs.declared.support.Decision.TheVariants.{Changeable}
use Rattle.guard_policy.proofs.KeptLemmas.{decided}
use Rattle.guard_policy.proofs.policy.Policy.changeable_question_by.Goals as goal

pub returns-clause-answer : goal.returns-clause-answer
returns-clause-answer g c = λ statement same.
    let policy = c.args.self.now in
    let holding = g.C.Conditions.holding c.args.conditions.now in
    let w = world_by policy (λ (n : Node). holding n.place) in
    decided policy holding (Changeable statement) (answer_of c.changeable_question_with.result)
    (c.changeable_question_with.ensures.answer ∙ ap (λ (n : Node). unless (fixed w n)) (sym same))
