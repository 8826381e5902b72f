use Rattle.object_laws.proofs.LineLemmas.{header_is_line, store_is_line}
use Rattle.object_laws.proofs.lines.lines_of_stores_are_lines.Goals as goal

pub returns-clause-store : goal.returns-clause-store
returns-clause-store c = store_is_line

pub returns-clause-header : goal.returns-clause-header
returns-clause-header c = header_is_line
