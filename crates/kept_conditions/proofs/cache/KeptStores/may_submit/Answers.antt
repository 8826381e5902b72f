use Rattle.std.proofs.Common.{refl}
use Rattle.guard_policy.specs.declared.support.Decision.TheVariants.{MaySubmit}
use Rattle.kept_conditions.proofs.TellsLemmas.{kept_tells}
use Rattle.kept_conditions.proofs.cache.KeptStores.may_submit.Goals as goal

pub returns : goal.returns
returns c =
    c.may_submit_by.ensures c.args.self.now.stores
    (kept_tells c.args.policy c.kept.result.now c.args.self.now.ifr c.args.self.now.stores MaySubmit c.args.policy.accepted c.requires c.kept.ensures tt refl)
