use Rattle.rules_laws.proofs.PolicyConditionLemmas.{worlds_alike}
use Rattle.rules_laws.proofs.policy.conditions_are_met_alike.Goals as goal

pub returns : goal.returns
returns c = worlds_alike
