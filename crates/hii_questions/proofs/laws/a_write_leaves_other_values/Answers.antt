use Rattle.hii_questions.proofs.LawLemmas.{leaves_others}
use Rattle.hii_questions.proofs.laws.a_write_leaves_other_values.Goals as goal

pub returns : goal.returns
returns c = leaves_others
