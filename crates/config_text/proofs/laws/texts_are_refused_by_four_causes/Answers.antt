use Rattle.config_text.proofs.RuleLemmas.{by_four}
use Rattle.config_text.proofs.laws.texts_are_refused_by_four_causes.Goals as goal

pub returns : goal.returns
returns c = by_four
