use Rattle.hii_packages.proofs.PlaceLemmas.{bad_exactly}
use Rattle.hii_packages.proofs.laws.a_bad_package_has_a_bad_length.Goals as goal

pub returns : goal.returns
returns c = bad_exactly
