use Rattle.rules_laws.proofs.PolicyLemmas.{values_same}
use Rattle.rules_laws.proofs.policy.the_same_closes_values.Goals as goal

pub returns : goal.returns
returns c = values_same
