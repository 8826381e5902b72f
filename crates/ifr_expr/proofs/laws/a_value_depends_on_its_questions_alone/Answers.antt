use Rattle.ifr_expr.proofs.DependenceLemmas.{depends}
use Rattle.ifr_expr.proofs.laws.a_value_depends_on_its_questions_alone.Goals as goal

pub returns : goal.returns
returns c = depends
