use Rattle.std.proofs.Common.{◌≡◌, ◌==◌, true, inl, inr, refl, subst, sym}
use Rattle.std.specs.Prelude.{◌||◌}
use Rattle.std.proofs.lemmas.Bool.{cond-true}
use Rattle.hii_bytes.specs.Watching.{Writes}
use Rattle.hii_bytes.proofs.WritingLemmas.{◌⨾◌}
use Rattle.audit_json.proofs.strings.put_json_char.Goals as goal

pub returns-then-c-eq34 : goal.returns-then-c-eq34
returns-then-c-eq34 g c =
    let is : (c.args.c == 34 || c.args.c == 92) ≡ true = elim c.then-c-eq34.either [ inl e ↦ rw e refl | inr both ↦ rw both.1 refl ] in
    subst (Writes _ _) (sym (cond-true (c.args.c == 34 || c.args.c == 92) _ _ is)) (c.put.ensures ⨾ c.put_char.ensures)
