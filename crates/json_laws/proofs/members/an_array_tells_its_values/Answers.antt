use Rattle.json_laws.proofs.ObjectLemmas.{array_told, items_can, items_written, no_array_told}
use Rattle.json_laws.proofs.members.an_array_tells_its_values.Goals as goal

pub returns-clause-some : goal.returns-clause-some
returns-clause-some c = array_told

pub returns-clause-none : goal.returns-clause-none
returns-clause-none c = no_array_told

pub returns-clause-each : goal.returns-clause-each
returns-clause-each c = items_written

pub returns-clause-good : goal.returns-clause-good
returns-clause-good c = items_can
