use Rattle.rules_laws.proofs.PolicyLemmas.{hidden_same}
use Rattle.rules_laws.proofs.policy.the_same_hides_a_node.Goals as goal

pub returns : goal.returns
returns c = hidden_same
