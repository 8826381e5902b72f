use Rattle.json_laws.proofs.ObjectLemmas.{parts_told}
use Rattle.json_laws.proofs.objects.an_object_of_one_text_is_a_line.Goals as goal

pub returns : goal.returns
returns c = parts_told
