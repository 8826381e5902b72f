use Rattle.hii_packages.proofs.SpellLemmas.{spelled_sound}
use Rattle.hii_packages.proofs.laws.spelled_bytes_have_no_fault.Goals as goal

pub returns : goal.returns
returns c = spelled_sound
