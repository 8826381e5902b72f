use Rattle.browser_core.proofs.GoodBytesLemmas.{opens_where_good, opens_good}
use Rattle.browser_core.proofs.laws.good_bytes_open.Goals as goal

pub returns-clause-opens : goal.returns-clause-opens
returns-clause-opens c = opens_where_good

pub returns-clause-good : goal.returns-clause-good
returns-clause-good c = opens_good
