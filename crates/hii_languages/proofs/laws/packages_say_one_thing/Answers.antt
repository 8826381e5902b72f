use Rattle.hii_languages.proofs.SpokenLemmas.{one_speech_of_each, speech_of_each}
use Rattle.hii_languages.proofs.laws.packages_say_one_thing.Goals as goal

pub returns-clause-one : goal.returns-clause-one
returns-clause-one c = one_speech_of_each

pub returns-clause-read : goal.returns-clause-read
returns-clause-read c = λ ps spoken are. (speech_of_each ps spoken are).said
