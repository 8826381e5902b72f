use Rattle.check_audit.proofs.SessionLemmas.{package_least}
use Rattle.check_audit.proofs.laws.a_forms_package_is_refused_as_by_a_session.Goals as goal

pub returns : goal.returns
returns c = λ list n source image fault none found least. package_least list n source image fault none found least
