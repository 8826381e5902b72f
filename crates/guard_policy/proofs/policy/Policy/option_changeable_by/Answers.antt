use Rattle.std.proofs.Common.{ap, ◌∙◌}
use Rattle.ifr_opcodes.specs.Forest.{Node}
use Rattle.ifr_scopes.specs.code.Parts.{option_node}
use Rattle.guard_policy.specs.code.Answers.{unless}
use Rattle.guard_policy.specs.code.Views.{world}
use Rattle.guard_policy.proofs.SupportLemmas.{fixed_same}
use Rattle.guard_policy.proofs.policy.Policy.option_changeable_by.Goals as goal

pub returns : goal.returns
returns g c =
    let n = option_node c.args.option in
    let holding = g.C.Conditions.holding c.args.conditions.now in
    λ stores told.
    c.option_selectable.ensures.fixed
    ∙ ap unless (fixed_same (world c.args.self.now stores) (λ (m : Node). holding m.place) n told)
