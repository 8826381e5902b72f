use Rattle.std.proofs.Common.{ap, sym, ◌∙◌}
use Rattle.ifr_opcodes.specs.Forest.{Node}
use Rattle.ifr_scopes.specs.code.Parts.{option_node}
use Rattle.guard_policy.specs.code.Answers.{unless}
use Rattle.guard_policy.specs.code.Views.{world}
use Rattle.guard_policy.proofs.IndexedLemmas.{of_option}
use Rattle.guard_policy.proofs.SupportLemmas.{hidden_same}
use Rattle.guard_policy.proofs.policy.Policy.option_listed_beside_by.Goals as goal

pub returns-clause-listed : goal.returns-clause-listed
returns-clause-listed g c =
    let n = option_node c.args.option in
    let holding = g.C.Conditions.holding c.args.conditions.now in
    λ stores told.
    c.seen_beside.ensures.seen n c.requires.node (of_option n c.args.option.option) (sym c.place.ensures)
    ∙ ap unless (hidden_same (world c.args.self.now stores) (λ (m : Node). holding m.place) n told)
