use Rattle.rules_laws.proofs.PolicyLemmas.{submission_same}
use Rattle.rules_laws.proofs.policy.the_same_denies_a_submission.Goals as goal

pub returns : goal.returns
returns c = submission_same
