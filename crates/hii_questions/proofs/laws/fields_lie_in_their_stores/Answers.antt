use Rattle.hii_questions.proofs.LawLemmas.{holds_fields}
use Rattle.hii_questions.proofs.laws.fields_lie_in_their_stores.Goals as goal

pub returns : goal.returns
returns c = holds_fields
