use Rattle.hii_varstore.proofs.LawLemmas.{one_map}
use Rattle.hii_varstore.proofs.laws.one_map_is_spelled.Goals as goal

pub returns : goal.returns
returns c = one_map
