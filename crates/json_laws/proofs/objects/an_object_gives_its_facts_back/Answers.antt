use Rattle.json_laws.proofs.ObjectLemmas.{object_back}
use Rattle.json_laws.proofs.objects.an_object_gives_its_facts_back.Goals as goal

pub returns : goal.returns
returns c = object_back
