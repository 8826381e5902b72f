use Rattle.std.proofs.Common.{ap, sym, ◌∙◌, length}
use Rattle.std.specs.List.{concat}
use Rattle.hii_dumps.specs.Dumps.{Parts}
use Rattle.hii_dumps.proofs.ListLemmas.{joined}
use Rattle.hii_dumps.proofs.dump.Dump.rest_place.Goals as goal

pub returns : goal.returns
returns c = ap length (sym (joined c.self.inside.lists.now c.self.invariant.0)) ∙ ap (λ (parts : Parts). length (concat parts.lists)) c.self.view_is
