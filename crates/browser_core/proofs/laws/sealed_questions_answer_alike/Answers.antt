use Rattle.browser_core.proofs.DecidingLemmas.{has_all, has_no_others}
use Rattle.browser_core.proofs.SealedLemmas.{sessions_alike, are_laid}
use Rattle.browser_core.proofs.laws.sealed_questions_answer_alike.Goals as goal

pub returns-clause-alike : goal.returns-clause-alike
returns-clause-alike c = sessions_alike

pub returns-clause-laid : goal.returns-clause-laid
returns-clause-laid c = are_laid

pub returns-clause-all : goal.returns-clause-all
returns-clause-all c = has_all

pub returns-clause-others : goal.returns-clause-others
returns-clause-others c = has_no_others
