use Rattle.script_audit.proofs.WarningLemmas.{answers_warnings}
use Rattle.script_audit.proofs.laws.the_warnings_told_are_those_of_the_session.Goals as goal

pub returns : goal.returns
returns c = answers_warnings
