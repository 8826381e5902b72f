use Rattle.hii_varstore.proofs.WriteLemmas.{sizes}
use Rattle.hii_varstore.proofs.laws.sizes_are_those_of_the_bytes.Goals as goal

pub returns : goal.returns
returns c = sizes
