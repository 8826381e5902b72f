use Rattle.ifr_nodes.proofs.RunLemmas.{none_where_spelled}
use Rattle.ifr_scopes.proofs.laws.spelled_bytes_have_no_framing_fault.Goals as goal

pub returns : goal.returns
returns c = none_where_spelled
