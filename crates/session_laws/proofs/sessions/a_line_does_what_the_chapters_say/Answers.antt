use Rattle.session_laws.proofs.SessionLemmas.{line_alike}
use Rattle.session_laws.proofs.sessions.a_line_does_what_the_chapters_say.Goals as goal

pub returns : goal.returns
returns c = line_alike
