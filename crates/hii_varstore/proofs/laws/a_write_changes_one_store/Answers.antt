use Rattle.hii_varstore.proofs.WriteLemmas.{bytes_after}
use Rattle.hii_varstore.proofs.laws.a_write_changes_one_store.Goals as goal

pub returns : goal.returns
returns c = bytes_after
