use Rattle.script_audit.proofs.LeavingLemmas.{leaves_all_alone, leaves_all_answered}
use Rattle.script_audit.proofs.laws.what_is_left_is_what_the_commands_leave.Goals as goal

pub returns-clause-alone : goal.returns-clause-alone
returns-clause-alone c = leaves_all_alone

pub returns-clause-answered : goal.returns-clause-answered
returns-clause-answered c = leaves_all_answered
