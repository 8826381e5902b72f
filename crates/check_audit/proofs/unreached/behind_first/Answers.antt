use Rattle.std.proofs.Common.{ap, ◌∙◌}
use Rattle.std.specs.Prelude.{drop}
use Rattle.check_audit.proofs.WarningLemmas.{behind_first}
use Rattle.check_audit.proofs.unreached.behind_first.Goals as goal

pub returns : goal.returns
returns c = behind_first _ _ _ c.next.ensures.steps ∙ ap (drop 1) c.forms-left.ensures
