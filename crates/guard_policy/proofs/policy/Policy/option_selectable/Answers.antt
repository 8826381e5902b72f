use Rattle.std.proofs.Common.{ap, sym, ◌∙◌}
use Rattle.ifr_scopes.specs.code.Parts.{option_node}
use Rattle.guard_policy.specs.code.Answers.{unless}
use Rattle.guard_policy.specs.code.Views.{world_by}
use Rattle.guard_policy.proofs.ClosedLemmas.{option_fixed}
use Rattle.guard_policy.proofs.IndexedLemmas.{of_option}
use Rattle.guard_policy.proofs.policy.Policy.option_selectable.Goals as goal

pub returns-clause-fixed : goal.returns-clause-fixed
returns-clause-fixed g c =
    let w = world_by c.args.self.now (g.V.Verdicts.met c.args.verdicts.now) in
    let n = option_node c.args.option in
    c.uncovered_beside.ensures.uncovered n c.requires.node (of_option n c.args.option.option) (sym c.place.ensures) ∙ ap unless (sym (option_fixed w n c.args.option.option))
