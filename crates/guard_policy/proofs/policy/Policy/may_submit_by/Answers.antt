use Rattle.guard_policy.specs.declared.support.Decision.TheVariants.{MaySubmit}
use Rattle.guard_policy.proofs.KeptLemmas.{decided}
use Rattle.guard_policy.proofs.policy.Policy.may_submit_by.Goals as goal

pub returns : goal.returns
returns g c = decided c.args.self.now (g.C.Conditions.holding c.args.conditions.now) MaySubmit c.may_submit_with.result c.may_submit_with.ensures
