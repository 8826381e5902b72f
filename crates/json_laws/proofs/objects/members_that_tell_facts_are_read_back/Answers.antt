use Rattle.json_laws.proofs.TellingLemmas.{read_back}
use Rattle.json_laws.proofs.objects.members_that_tell_facts_are_read_back.Goals as goal

pub returns : goal.returns
returns c = λ kind members plain tells. read_back kind plain tells
