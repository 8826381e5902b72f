use Rattle.browser_core.proofs.RefusedLemmas.{step_leaves, line_leaves}
use Rattle.browser_core.proofs.laws.refused_commands_change_nothing.Goals as goal

pub returns-clause-commands : goal.returns-clause-commands
returns-clause-commands c = step_leaves

pub returns-clause-lines : goal.returns-clause-lines
returns-clause-lines c = line_leaves
