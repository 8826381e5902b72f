use Rattle.hii_questions.proofs.NamedLemmas.{names_offered}
use Rattle.hii_questions.proofs.laws.a_taken_value_names_what_was_offered.Goals as goal

pub returns : goal.returns
returns c = names_offered
