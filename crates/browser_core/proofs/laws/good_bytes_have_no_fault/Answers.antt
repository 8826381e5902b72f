use Rattle.browser_core.proofs.GoodBytesLemmas.{good_no_fault}
use Rattle.browser_core.proofs.laws.good_bytes_have_no_fault.Goals as goal

pub returns : goal.returns
returns c = good_no_fault
