use Rattle.session_laws.proofs.StayLemmas.{package_stays, package_stays_behind}
use Rattle.session_laws.proofs.sessions.the_package_stays.Goals as goal

pub returns-clause-command : goal.returns-clause-command
returns-clause-command c = package_stays

pub returns-clause-line : goal.returns-clause-line
returns-clause-line c = package_stays_behind
