use Rattle.std.proofs.Common.{sym, ap, ◌∙◌}
use Rattle.guard_policy.specs.Policy.{fixed}
use Rattle.guard_policy.specs.code.Answers.{unless}
use Rattle.guard_policy.specs.code.Views.{world_by}
use Rattle.guard_policy.specs.declared.support.Decision.TheVariants.{Changeable}
use Rattle.ifr_opcodes.specs.Forest.{Node}
use Rattle.guard_policy.proofs.KeptLemmas.{decided}
use Rattle.guard_policy.proofs.policy.Policy.question_changeable_by.Goals as goal

pub returns : goal.returns
returns g c = λ statement same.
    let policy = c.args.self.now in
    let holding = g.C.Conditions.holding c.args.conditions.now in
    let w = world_by policy (λ (n : Node). holding n.place) in
    decided policy holding (Changeable statement) c.question_changeable_with.result
    (c.question_changeable_with.ensures ∙ ap (λ (n : Node). unless (fixed w n)) (sym same))
