use Rattle.rules_laws.proofs.GoodQuestionLemmas.{questions_sound, questions_complete}
use Rattle.rules_laws.proofs.form_sets.good_questions_have_no_fault.Goals as goal

pub returns-clause-sound : goal.returns-clause-sound
returns-clause-sound c = questions_sound

pub returns-clause-complete : goal.returns-clause-complete
returns-clause-complete c = questions_complete
