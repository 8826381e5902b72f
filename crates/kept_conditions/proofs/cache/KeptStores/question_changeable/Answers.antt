use Rattle.std.proofs.Common.{refl}
use Rattle.guard_policy.specs.declared.support.Decision.TheVariants.{Changeable}
use Rattle.kept_conditions.proofs.TellsLemmas.{kept_tells}
use Rattle.kept_conditions.proofs.cache.KeptStores.question_changeable.Goals as goal

pub returns : goal.returns
returns c =
    let statement = c.args.question.statement in
    c.question_changeable_by.ensures statement refl c.args.self.now.stores
    (kept_tells c.args.policy c.kept.result.now c.args.self.now.ifr c.args.self.now.stores (Changeable statement)
    c.args.policy.accepted c.requires.package c.kept.ensures c.requires.node refl)
