use Rattle.std.proofs.lemmas.List.{take-replicate}
use Rattle.std.proofs.Common.{ℕ}
use Rattle.form_page.proofs.line.Line.put_spaces.Goals as goal

pub returns : goal.returns
returns g c = rw (take-replicate {X = ℕ} c.args.count 24 32 c.requires) at c.put.ensures
