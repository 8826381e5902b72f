use Rattle.check_audit.proofs.SessionLemmas.{list_least}
use Rattle.check_audit.proofs.laws.a_list_is_refused_as_by_a_session.Goals as goal

pub returns : goal.returns
returns c = λ list image fault least. list_least list image fault least
