use Rattle.image_audit.proofs.EqualLemmas.{same_told, told_same}
use Rattle.image_audit.proofs.laws.nothing_is_told_of_equal_stores.Goals as goal

pub returns-clause-same : goal.returns-clause-same
returns-clause-same c = same_told

pub returns-clause-others : goal.returns-clause-others
returns-clause-others c = told_same
