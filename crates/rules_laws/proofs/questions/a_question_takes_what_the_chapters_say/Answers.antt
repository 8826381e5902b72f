use Rattle.std.proofs.Common.{refl}
use Rattle.rules_laws.proofs.QuestionLemmas.{fits_same, values_same}
use Rattle.rules_laws.proofs.questions.a_question_takes_what_the_chapters_say.Goals as goal

pub returns-clause-bytes : goal.returns-clause-bytes
returns-clause-bytes c = fits_same

pub returns-clause-values : goal.returns-clause-values
returns-clause-values c = values_same

pub returns-clause-number : goal.returns-clause-number
returns-clause-number c = λ signed width bits. refl

pub returns-clause-items : goal.returns-clause-items
returns-clause-items c = λ width bytes. refl

pub returns-clause-of_items : goal.returns-clause-of_items
returns-clause-of_items c = λ width bytes. refl
