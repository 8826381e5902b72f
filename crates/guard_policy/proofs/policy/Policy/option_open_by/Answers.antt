use Rattle.guard_policy.specs.declared.support.Decision.TheVariants.{OptionOpen}
use Rattle.guard_policy.proofs.KeptLemmas.{decided}
use Rattle.guard_policy.proofs.policy.Policy.option_open_by.Goals as goal

pub returns : goal.returns
returns g c = decided c.args.self.now (g.C.Conditions.holding c.args.conditions.now) (OptionOpen c.args.question c.args.value) c.option_open_with.result c.option_open_with.ensures
