use Rattle.hii_questions.proofs.LawLemmas.{reads_back}
use Rattle.hii_questions.proofs.laws.a_taken_value_is_read_back.Goals as goal

pub returns : goal.returns
returns c = reads_back
