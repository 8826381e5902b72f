use Rattle.json_laws.proofs.ObjectLemmas.{fault_told, guid_told, member_told, number_told, text_told, truth_told, word_told}
use Rattle.json_laws.proofs.members.a_member_tells_a_fact.Goals as goal

pub returns-clause-number : goal.returns-clause-number
returns-clause-number c = number_told

pub returns-clause-text : goal.returns-clause-text
returns-clause-text c = text_told

pub returns-clause-word : goal.returns-clause-word
returns-clause-word c = word_told

pub returns-clause-guid : goal.returns-clause-guid
returns-clause-guid c = guid_told

pub returns-clause-truth : goal.returns-clause-truth
returns-clause-truth c = truth_told

pub returns-clause-fault : goal.returns-clause-fault
returns-clause-fault c = fault_told

pub returns-clause-other : goal.returns-clause-other
returns-clause-other c = member_told
