use Rattle.guard_policy.proofs.RuleValueLemmas.{forgotten}
use Rattle.kept_conditions.proofs.cache.KeptStores.copy_from.Goals as goal

pub renew_between-changed-requires-clause-values : goal.renew_between-changed-requires-clause-values
renew_between-changed-requires-clause-values c = forgotten c.self.inside.kept.ifr c.args.others.now c.forget.new.self c.forget.ensures.nothing
