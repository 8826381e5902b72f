use Rattle.browser_commands.proofs.OpeningLemmas.{opens_no_fault}
use Rattle.browser_core.proofs.laws.bytes_that_open_have_no_fault.Goals as goal

pub returns : goal.returns
returns c = opens_no_fault
