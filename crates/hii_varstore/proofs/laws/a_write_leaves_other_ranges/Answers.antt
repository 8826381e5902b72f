use Rattle.hii_varstore.proofs.WriteLemmas.{field_after}
use Rattle.hii_varstore.proofs.laws.a_write_leaves_other_ranges.Goals as goal

pub returns : goal.returns
returns c = field_after
