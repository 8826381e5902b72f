use Rattle.hii_languages.proofs.SpokenLemmas.{speech_of_each}
use Rattle.hii_languages.proofs.laws.packages_that_speak_have_no_fault.Goals as goal

pub returns : goal.returns
returns c = λ ps spoken are. (speech_of_each ps spoken are).sound
