use Rattle.rules_laws.proofs.PolicyLemmas.{fixed_same}
use Rattle.rules_laws.proofs.policy.the_same_fixes_a_node.Goals as goal

pub returns : goal.returns
returns c = fixed_same
