use Rattle.session_laws.proofs.OpenedLemmas.{stands_opened}
use Rattle.session_laws.proofs.SessionLemmas.{line_stands, step_stands}
use Rattle.session_laws.proofs.sessions.a_session_stands_behind_its_lines.Goals as goal

pub returns-clause-opened : goal.returns-clause-opened
returns-clause-opened c = stands_opened

pub returns-clause-command : goal.returns-clause-command
returns-clause-command c = step_stands

pub returns-clause-line : goal.returns-clause-line
returns-clause-line c = line_stands
