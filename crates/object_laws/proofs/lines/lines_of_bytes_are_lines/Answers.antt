use Rattle.object_laws.proofs.StoreLineLemmas.{held_is_line, piece_is_line, run_is_line}
use Rattle.object_laws.proofs.lines.lines_of_bytes_are_lines.Goals as goal

pub returns-clause-store : goal.returns-clause-store
returns-clause-store c = held_is_line

pub returns-clause-piece : goal.returns-clause-piece
returns-clause-piece c = piece_is_line

pub returns-clause-run : goal.returns-clause-run
returns-clause-run c = run_is_line
