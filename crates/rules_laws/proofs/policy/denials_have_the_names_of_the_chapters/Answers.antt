use Rattle.rules_laws.proofs.PolicyLemmas.{names_same}
use Rattle.rules_laws.proofs.policy.denials_have_the_names_of_the_chapters.Goals as goal

pub returns : goal.returns
returns c = names_same
