use Rattle.hii_varstore.proofs.WriteLemmas.{field_back}
use Rattle.hii_varstore.proofs.laws.a_written_range_is_read_back.Goals as goal

pub returns : goal.returns
returns c = field_back
