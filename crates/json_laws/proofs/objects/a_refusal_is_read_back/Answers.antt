use Rattle.json_laws.proofs.ObjectLemmas.{error_back, refused_at_back, refused_back}
use Rattle.json_laws.proofs.objects.a_refusal_is_read_back.Goals as goal

pub returns-clause-error : goal.returns-clause-error
returns-clause-error c = error_back

pub returns-clause-cause : goal.returns-clause-cause
returns-clause-cause c = refused_back

pub returns-clause-fault : goal.returns-clause-fault
returns-clause-fault c = refused_at_back
