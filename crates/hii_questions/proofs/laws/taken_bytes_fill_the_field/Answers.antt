use Rattle.hii_questions.proofs.LawLemmas.{fits_wide}
use Rattle.hii_questions.proofs.laws.taken_bytes_fill_the_field.Goals as goal

pub returns : goal.returns
returns c = fits_wide
