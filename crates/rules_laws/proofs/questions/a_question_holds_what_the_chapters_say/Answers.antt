use Rattle.std.proofs.Common.{refl}
use Rattle.rules_laws.proofs.QuestionLemmas.{value_same, element_same, type_same, wide_same}
use Rattle.rules_laws.proofs.questions.a_question_holds_what_the_chapters_say.Goals as goal

pub returns-clause-flag : goal.returns-clause-flag
returns-clause-flag c = λ flags flag. refl

pub returns-clause-kind : goal.returns-clause-kind
returns-clause-kind c = λ o. refl

pub returns-clause-value : goal.returns-clause-value
returns-clause-value c = value_same

pub returns-clause-element : goal.returns-clause-element
returns-clause-element c = element_same

pub returns-clause-holds : goal.returns-clause-holds
returns-clause-holds c = type_same

pub returns-clause-wide : goal.returns-clause-wide
returns-clause-wide c = wide_same
