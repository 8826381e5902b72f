use Rattle.hii_varstore.proofs.LawLemmas.{written_anew}
use Rattle.hii_varstore.proofs.laws.an_older_image_is_written_anew.Goals as goal

pub returns : goal.returns
returns c = written_anew
