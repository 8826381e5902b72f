use Rattle.object_laws.proofs.ExportLemmas.{piece_back, run_back, store_held_back}
use Rattle.object_laws.proofs.export.objects_of_bytes_are_read_back.Goals as goal

pub returns-clause-store : goal.returns-clause-store
returns-clause-store c = store_held_back

pub returns-clause-piece : goal.returns-clause-piece
returns-clause-piece c = piece_back

pub returns-clause-run : goal.returns-clause-run
returns-clause-run c = run_back
