use Rattle.rules_laws.proofs.DefaultLemmas.{default_same, plain_same}
use Rattle.rules_laws.proofs.defaults.a_question_has_the_default_of_the_chapters.Goals as goal

pub returns-clause-default : goal.returns-clause-default
returns-clause-default c = default_same

pub returns-clause-plain : goal.returns-clause-plain
returns-clause-plain c = plain_same
