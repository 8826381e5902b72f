use Rattle.session_laws.proofs.SessionLemmas.{step_alike}
use Rattle.session_laws.proofs.sessions.a_command_does_what_the_chapters_say.Goals as goal

pub returns : goal.returns
returns c = step_alike
