use Rattle.rules_laws.proofs.PolicyLemmas.{removed_at_same}
use Rattle.rules_laws.proofs.policy.the_same_is_removed_at_opening.Goals as goal

pub returns : goal.returns
returns c = removed_at_same
