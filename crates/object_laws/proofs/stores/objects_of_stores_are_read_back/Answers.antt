use Rattle.object_laws.proofs.StoreLemmas.{header_back, store_back}
use Rattle.object_laws.proofs.stores.objects_of_stores_are_read_back.Goals as goal

pub returns-clause-store : goal.returns-clause-store
returns-clause-store c = store_back

pub returns-clause-header : goal.returns-clause-header
returns-clause-header c = header_back
