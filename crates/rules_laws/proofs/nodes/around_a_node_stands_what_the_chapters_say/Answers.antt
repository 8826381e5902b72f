use Rattle.rules_laws.proofs.NodeLemmas.{guards_same, this_same, lock_same}
use Rattle.rules_laws.proofs.nodes.around_a_node_stands_what_the_chapters_say.Goals as goal

pub returns-clause-guards : goal.returns-clause-guards
returns-clause-guards c = guards_same

pub returns-clause-this : goal.returns-clause-this
returns-clause-this c = this_same

pub returns-clause-lock : goal.returns-clause-lock
returns-clause-lock c = lock_same
