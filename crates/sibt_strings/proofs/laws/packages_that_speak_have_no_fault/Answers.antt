use Rattle.sibt_strings.proofs.FaultLemmas.{speech_read}
use Rattle.sibt_strings.proofs.laws.packages_that_speak_have_no_fault.Goals as goal

pub returns : goal.returns
returns c = λ p spoken speaks. (speech_read p spoken speaks).1
