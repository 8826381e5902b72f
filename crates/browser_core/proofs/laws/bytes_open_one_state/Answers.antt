use Rattle.browser_core.proofs.OneStateLemmas.{one_begun, one_state}
use Rattle.browser_core.proofs.laws.bytes_open_one_state.Goals as goal

pub returns-clause-state : goal.returns-clause-state
returns-clause-state c = one_state

pub returns-clause-begun : goal.returns-clause-begun
returns-clause-begun c = one_begun
