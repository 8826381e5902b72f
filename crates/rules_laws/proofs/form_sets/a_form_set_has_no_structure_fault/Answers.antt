use Rattle.rules_laws.proofs.FormSetLemmas.{sound, complete}
use Rattle.rules_laws.proofs.form_sets.a_form_set_has_no_structure_fault.Goals as goal

pub returns-clause-sound : goal.returns-clause-sound
returns-clause-sound c = λ bytes f s. sound f s.are_nodes

pub returns-clause-complete : goal.returns-clause-complete
returns-clause-complete c = λ bytes f s. complete f s.are_nodes
