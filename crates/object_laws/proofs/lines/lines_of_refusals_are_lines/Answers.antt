use Rattle.object_laws.proofs.LineLemmas.{refused_at_is_line, refused_is_line}
use Rattle.object_laws.proofs.lines.lines_of_refusals_are_lines.Goals as goal

pub returns-clause-cause : goal.returns-clause-cause
returns-clause-cause c = refused_is_line

pub returns-clause-fault : goal.returns-clause-fault
returns-clause-fault c = refused_at_is_line
