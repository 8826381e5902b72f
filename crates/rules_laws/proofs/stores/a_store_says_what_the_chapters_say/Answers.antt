use Rattle.rules_laws.proofs.StoreLemmas.{stores_same, id_same, guid_same, name_same, size_same}
use Rattle.rules_laws.proofs.stores.a_store_says_what_the_chapters_say.Goals as goal

pub returns-clause-which : goal.returns-clause-which
returns-clause-which c = stores_same

pub returns-clause-id : goal.returns-clause-id
returns-clause-id c = id_same

pub returns-clause-guid : goal.returns-clause-guid
returns-clause-guid c = guid_same

pub returns-clause-name : goal.returns-clause-name
returns-clause-name c = name_same

pub returns-clause-size : goal.returns-clause-size
returns-clause-size c = size_same
