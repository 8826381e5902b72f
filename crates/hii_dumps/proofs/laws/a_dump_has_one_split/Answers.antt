use Rattle.hii_dumps.proofs.ListLemmas.{one_split}
use Rattle.hii_dumps.proofs.laws.a_dump_has_one_split.Goals as goal

pub returns : goal.returns
returns c = one_split
