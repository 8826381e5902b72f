use Rattle.std.proofs.Common.{refl, ◌∙◌}
use Rattle.ifr_opcodes.specs.Forest.{Node}
use Rattle.guard_policy.specs.code.Views.{world}
use Rattle.guard_policy.specs.declared.support.Decision.TheVariants.{Changeable, OptionOpen}
use Rattle.guard_policy.proofs.SupportLemmas.{denial_same}
use Rattle.kept_conditions.specs.Kept.{held}
use Rattle.kept_conditions.proofs.TellsLemmas.{kept_tells}
use Rattle.kept_conditions.proofs.cache.KeptStores.open_values.Goals as goal

pub open_values_by-requires-clause-free : goal.open_values_by-requires-clause-free
open_values_by-requires-clause-free c =
    let statement = c.args.question.statement in
    let kept = c.kept.result.now in
    denial_same (world c.args.policy c.args.self.now.stores) (λ (n : Node). held kept.values n.place) (Changeable statement)
    (kept_tells c.args.policy kept c.args.self.now.ifr c.args.self.now.stores (Changeable statement)
    c.args.policy.accepted c.requires.package c.kept.ensures c.requires.node refl) ∙ c.requires.free

pub returns-clause-met : goal.returns-clause-met
returns-clause-met c v =
    c.open_values_by.ensures.met v c.args.self.now.stores
    (kept_tells c.args.policy c.kept.result.now c.args.self.now.ifr c.args.self.now.stores (OptionOpen c.args.question v)
    c.args.policy.accepted c.requires.package c.kept.ensures c.requires.node refl)
