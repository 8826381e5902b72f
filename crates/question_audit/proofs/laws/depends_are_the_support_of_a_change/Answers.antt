use Rattle.question_audit.proofs.DependLemmas.{any_support}
use Rattle.question_audit.proofs.laws.depends_are_the_support_of_a_change.Goals as goal

pub returns : goal.returns
returns c = λ ns id n. any_support ns id n
