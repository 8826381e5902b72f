use Rattle.std.proofs.Common.{◌==◌, sym, subst}
use Rattle.std.proofs.lemmas.Bool.{cond-false, ne_eqb}
use Rattle.hii_bytes.specs.Watching.{Writes}
use Rattle.hii_bytes.proofs.WritingLemmas.{◌⨾◌}
use Rattle.opcode_audit.proofs.words.put_text_json.Goals as goal

pub returns : goal.returns
returns g c =
    rw c.in-Id.is (subst (Writes _ _) (sym (cond-false (c.in-Id.id == 0) _ _ (ne_eqb c.in-Id.id 0 c.if-id-eq0.false)))
    (c.put.ensures ⨾ (rw c.text.ensures at c.put-2.ensures) ⨾ c.put-3.ensures ⨾ c.put_said.ensures))
