use Rattle.guard_policy.specs.declared.support.Decision.TheVariants.{Changeable}
use Rattle.guard_policy.proofs.KeptLemmas.{decided}
use Rattle.guard_policy.proofs.policy.Policy.changeable_by.Goals as goal

pub returns : goal.returns
returns g c = decided c.args.self.now (g.C.Conditions.holding c.args.conditions.now) (Changeable c.args.statement) c.changeable_with.result c.changeable_with.ensures
