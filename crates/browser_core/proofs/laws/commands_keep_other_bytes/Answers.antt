use Rattle.browser_core.proofs.LawLemmas.{keeps}
use Rattle.browser_core.proofs.laws.commands_keep_other_bytes.Goals as goal

pub returns : goal.returns
returns c = keeps
