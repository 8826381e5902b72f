use Rattle.rules_laws.proofs.PolicyLemmas.{inconsistent_same, warned_same}
use Rattle.rules_laws.proofs.policy.the_same_is_inconsistent_and_warned.Goals as goal

pub returns-clause-inconsistent : goal.returns-clause-inconsistent
returns-clause-inconsistent c = inconsistent_same

pub returns-clause-warned : goal.returns-clause-warned
returns-clause-warned c = warned_same
