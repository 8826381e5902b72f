use Rattle.json_laws.proofs.ObjectLemmas.{can_behind, members_told}
use Rattle.json_laws.proofs.members.members_tell_their_facts_in_order.Goals as goal

pub returns-clause-told : goal.returns-clause-told
returns-clause-told c = members_told

pub returns-clause-good : goal.returns-clause-good
returns-clause-good c = can_behind
