use Rattle.std.proofs.Common.{refl}
use Rattle.guard_policy.specs.declared.support.Decision.TheVariants.{Changeable}
use Rattle.kept_conditions.proofs.TellsLemmas.{kept_tells}
use Rattle.kept_conditions.proofs.cache.KeptStores.changeable.Goals as goal

pub returns : goal.returns
returns c =
    c.changeable_by.ensures c.args.self.now.stores
    (kept_tells c.args.policy c.kept.result.now c.args.self.now.ifr c.args.self.now.stores (Changeable c.args.statement)
    c.args.policy.accepted c.requires.package c.kept.ensures c.requires.node refl)
