use Rattle.rules_laws.proofs.PageLemmas.{each_answers}
use Rattle.rules_laws.proofs.pages.questions_of_stores_without_fault_answer_alike.Goals as goal

pub returns : goal.returns
returns c = each_answers
