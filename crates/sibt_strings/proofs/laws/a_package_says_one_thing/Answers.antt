use Rattle.sibt_strings.proofs.FaultLemmas.{one_speech, speech_read}
use Rattle.sibt_strings.proofs.laws.a_package_says_one_thing.Goals as goal

pub returns-clause-one : goal.returns-clause-one
returns-clause-one c = one_speech

pub returns-clause-read : goal.returns-clause-read
returns-clause-read c = λ p spoken speaks. (speech_read p spoken speaks).0
