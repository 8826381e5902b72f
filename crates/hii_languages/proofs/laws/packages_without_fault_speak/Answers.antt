use Rattle.hii_languages.proofs.SpokenLemmas.{each_speech}
use Rattle.hii_languages.proofs.laws.packages_without_fault_speak.Goals as goal

pub returns : goal.returns
returns c = each_speech
