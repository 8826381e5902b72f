use Rattle.object_laws.proofs.DifferenceLemmas.{value_back, verdict_back}
use Rattle.object_laws.proofs.diff.objects_of_differences_are_read_back.Goals as goal

pub returns-clause-value : goal.returns-clause-value
returns-clause-value c = value_back

pub returns-clause-verdict : goal.returns-clause-verdict
returns-clause-verdict c = verdict_back
