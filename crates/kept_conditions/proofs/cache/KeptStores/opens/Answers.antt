use Rattle.std.proofs.Common.{refl}
use Rattle.guard_policy.specs.declared.support.Decision.TheVariants.{Opens}
use Rattle.kept_conditions.proofs.TellsLemmas.{kept_tells}
use Rattle.kept_conditions.proofs.cache.KeptStores.opens.Goals as goal

pub returns : goal.returns
returns c =
    c.opens_by.ensures c.args.self.now.stores
    (kept_tells c.args.policy c.kept.result.now c.args.self.now.ifr c.args.self.now.stores (Opens c.args.form)
    c.args.policy.accepted c.requires.package c.kept.ensures c.requires.node refl)
