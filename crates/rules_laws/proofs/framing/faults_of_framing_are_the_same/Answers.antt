use Rattle.rules_laws.proofs.FramingLemmas.{same_framing_faults}
use Rattle.rules_laws.proofs.framing.faults_of_framing_are_the_same.Goals as goal

pub returns : goal.returns
returns c = same_framing_faults
