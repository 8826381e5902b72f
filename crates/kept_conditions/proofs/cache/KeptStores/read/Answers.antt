use Rattle.guard_policy.specs.code.Views.{bytes_of}
use Rattle.guard_policy.proofs.RuleValueLemmas.{forgotten}
use Rattle.kept_conditions.proofs.cache.KeptStores.read.Goals as goal

pub read-requires-clause-values : goal.read-requires-clause-values
read-requires-clause-values c = forgotten (bytes_of c.args.policy) c.args.stores c.in_ok-rules.rules c.in_ok-rules.ensures.nothing
