use Rattle.question_audit.proofs.OneLineLemmas.{questions_by_form, questions_rise}
use Rattle.question_audit.proofs.laws.each_question_has_one_line.Goals as goal

pub returns-clause-lines : goal.returns-clause-lines
returns-clause-lines c = questions_by_form c.args.forms.now c.bytes.ensures.accepted

pub returns-clause-rise : goal.returns-clause-rise
returns-clause-rise c = λ i j. questions_rise c.args.forms.now i j c.bytes.ensures.accepted
