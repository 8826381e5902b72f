use Rattle.guard_policy.specs.code.Standings.{changeable_answer, listed_answer}
use Rattle.guard_policy.specs.declared.support.Decision.TheVariants.{Changeable, Listed}
use Rattle.guard_policy.proofs.KeptLemmas.{decided}
use Rattle.guard_policy.proofs.policy.Policy.standing_by.Goals as goal

pub returns-clause-listed : goal.returns-clause-listed
returns-clause-listed g c =
    decided c.args.self.now (g.C.Conditions.holding c.args.conditions.now) (Listed c.args.statement) (listed_answer c.standing_with.result) c.standing_with.ensures.listed

pub returns-clause-changeable : goal.returns-clause-changeable
returns-clause-changeable g c =
    decided c.args.self.now (g.C.Conditions.holding c.args.conditions.now) (Changeable c.args.statement) (changeable_answer c.standing_with.result) c.standing_with.ensures.changeable
