use Rattle.sibt_strings.proofs.FaultLemmas.{read_speech}
use Rattle.sibt_strings.proofs.laws.packages_without_fault_speak.Goals as goal

pub returns : goal.returns
returns c = read_speech
