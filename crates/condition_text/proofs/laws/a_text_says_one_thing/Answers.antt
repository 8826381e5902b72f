use Rattle.condition_text.proofs.ReadLemmas.{one_sense}
use Rattle.condition_text.proofs.laws.a_text_says_one_thing.Goals as goal

pub returns : goal.returns
returns c = one_sense
