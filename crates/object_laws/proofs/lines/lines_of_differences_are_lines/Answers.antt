use Rattle.object_laws.proofs.StoreLineLemmas.{value_is_line, verdict_is_line}
use Rattle.object_laws.proofs.lines.lines_of_differences_are_lines.Goals as goal

pub returns-clause-value : goal.returns-clause-value
returns-clause-value c = value_is_line

pub returns-clause-verdict : goal.returns-clause-verdict
returns-clause-verdict c = verdict_is_line
