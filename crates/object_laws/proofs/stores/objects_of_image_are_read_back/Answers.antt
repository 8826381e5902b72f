use Rattle.object_laws.proofs.StoreLemmas.{count_back, filled_back, refused_back}
use Rattle.object_laws.proofs.stores.objects_of_image_are_read_back.Goals as goal

pub returns-clause-filled : goal.returns-clause-filled
returns-clause-filled c = filled_back

pub returns-clause-refused : goal.returns-clause-refused
returns-clause-refused c = refused_back

pub returns-clause-defaults : goal.returns-clause-defaults
returns-clause-defaults c = count_back
