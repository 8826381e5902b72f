use Rattle.hii_varstore.proofs.WriteLemmas.{both_after}
use Rattle.hii_varstore.proofs.laws.two_writes_are_one.Goals as goal

pub returns : goal.returns
returns c = both_after
