use Rattle.session_laws.proofs.BeginLemmas.{begins, image_spelled}
use Rattle.session_laws.proofs.sessions.a_session_begins_where_the_chapters_say.Goals as goal

pub returns-clause-state : goal.returns-clause-state
returns-clause-state c = begins

pub returns-clause-stores : goal.returns-clause-stores
returns-clause-stores c = image_spelled
