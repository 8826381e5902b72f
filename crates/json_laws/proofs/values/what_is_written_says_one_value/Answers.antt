use Rattle.json_laws.proofs.ObjectLemmas.{same_value}
use Rattle.json_laws.proofs.values.what_is_written_says_one_value.Goals as goal

pub returns : goal.returns
returns c = same_value
