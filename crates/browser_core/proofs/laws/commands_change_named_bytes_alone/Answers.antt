use Rattle.browser_core.proofs.LawLemmas.{changes_alone}
use Rattle.browser_core.proofs.laws.commands_change_named_bytes_alone.Goals as goal

pub returns : goal.returns
returns c = changes_alone
