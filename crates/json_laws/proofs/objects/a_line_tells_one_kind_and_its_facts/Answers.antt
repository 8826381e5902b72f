use Rattle.json_laws.proofs.ObjectLemmas.{same_facts}
use Rattle.json_laws.proofs.objects.a_line_tells_one_kind_and_its_facts.Goals as goal

pub returns : goal.returns
returns c = same_facts
