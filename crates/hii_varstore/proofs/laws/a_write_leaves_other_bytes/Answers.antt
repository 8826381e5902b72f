use Rattle.hii_varstore.proofs.WriteLemmas.{byte_after}
use Rattle.hii_varstore.proofs.laws.a_write_leaves_other_bytes.Goals as goal

pub returns : goal.returns
returns c = byte_after
