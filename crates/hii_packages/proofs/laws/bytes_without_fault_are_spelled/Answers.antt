use Rattle.hii_packages.proofs.SpellLemmas.{spelled_sound, spelled_where_sound}
use Rattle.hii_packages.proofs.laws.bytes_without_fault_are_spelled.Goals as goal

pub returns : goal.returns
returns c = λ list. (spelled_where_sound list, spelled_sound list _)
