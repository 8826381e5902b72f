use Rattle.ifr_nodes.proofs.RunLemmas.{one_fault}
use Rattle.ifr_scopes.proofs.laws.one_framing_fault.Goals as goal

pub returns : goal.returns
returns c = one_fault
