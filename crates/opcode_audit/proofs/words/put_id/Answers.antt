use Rattle.std.proofs.Common.{◌==◌, ℕ, List, ◌++◌, sym, ap, subst}
use Rattle.std.specs.Prelude.{decimal}
use Rattle.std.proofs.lemmas.Bool.{cond-false, ne_eqb}
use Rattle.hii_bytes.specs.Watching.{Writes}
use Rattle.hii_bytes.proofs.WritingLemmas.{◌⨾◌}
use Rattle.opcode_audit.proofs.words.put_id.Goals as goal

pub returns-then-id-ne0 : goal.returns-then-id-ne0
returns-then-id-ne0 g c =
    subst (Writes _ _) (ap (λ (l : List ℕ). decimal c.args.id ++ l) (sym (cond-false (c.args.id == 0) _ _ (ne_eqb c.args.id 0 c.if-id-ne0.true))))
    ((rw c.from.ensures at c.put_decimal.ensures) ⨾ (c.put.ensures ⨾ c.put_said.ensures))
