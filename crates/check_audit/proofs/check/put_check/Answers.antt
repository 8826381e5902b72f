use Rattle.std.proofs.Common.{ℕ, List, ap, inr, sym, ◌∙◌}
use Rattle.std.proofs.lemmas.Result.{IfOk-weaker}
use Rattle.opcode_audit.specs.Lines.{said_first}
use Rattle.check_audit.specs.Lacks.{lacks_in}
use Rattle.check_audit.proofs.CheckLemmas.{told_none}
use Rattle.check_audit.proofs.check.put_check.Goals as goal

pub put_packages-requires-clause-strings : goal.put_packages-requires-clause-strings
put_packages-requires-clause-strings g c = c.in-Ok.ensures.read.1 ∙ ap (λ (l : List ℕ). said_first l) (sym c.in-Ok.ensures.read.0)

pub put_packages-requires-clause-lacks : goal.put_packages-requires-clause-lacks
put_packages-requires-clause-lacks g c = c.in-Ok.ensures.read.2 ∙ ap (λ (l : List ℕ). lacks_in l) (sym c.in-Ok.ensures.read.0)

pub returns-in-Ok-clause-told : goal.returns-in-Ok-clause-told
returns-in-Ok-clause-told g c =
    let told = rw c.in-Ok.ensures.read.0 at c.put_packages.ensures.told in
    IfOk-weaker c.put_packages.result _ _ (λ is said. (said.0, inr (c.in-Ok.ensures.sound, said.1), said.2)) told

pub returns-in-Err-clause-begun : goal.returns-in-Err-clause-begun
returns-in-Err-clause-begun g c = told_none _ _ _ _
