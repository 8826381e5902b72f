use Rattle.hii_packages.proofs.SpellLemmas.{read_lie}
use Rattle.hii_packages.proofs.laws.packages_lie_at_their_places.Goals as goal

pub returns : goal.returns
returns c = read_lie
