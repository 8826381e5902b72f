use Rattle.std.proofs.Common.{◌==◌}
use Rattle.hii_languages.proofs.SpokenLemmas.{before_first-some, before_first-none}
use Rattle.hii_languages.proofs.languages.primary_subtag_of.Goals as goal

pub returns-in-Some : goal.returns-in-Some
returns-in-Some c = before_first-some (λ byte. byte == 45) c.args.language.now c.in-Some.hyphen c.in-Some.ensures

pub returns-in-None : goal.returns-in-None
returns-in-None c = before_first-none (λ byte. byte == 45) c.args.language.now c.in-None.ensures
