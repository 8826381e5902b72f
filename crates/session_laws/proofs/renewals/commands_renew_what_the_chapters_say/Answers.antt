use Rattle.session_laws.proofs.RenewedLemmas.{renewed_line_same, renewed_same}
use Rattle.session_laws.proofs.renewals.commands_renew_what_the_chapters_say.Goals as goal

pub returns-clause-command : goal.returns-clause-command
returns-clause-command c = renewed_same

pub returns-clause-line : goal.returns-clause-line
returns-clause-line c = renewed_line_same
