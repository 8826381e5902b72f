use Rattle.std.proofs.Common.{◌≡◌, true, subst, sym, ap, ◌∙◌}
use Rattle.std.proofs.lemmas.Bool.{cond-true}
use Rattle.hii_bytes.specs.Watching.{Writes}
use Rattle.hii_bytes.proofs.WritingLemmas.{◌⨾◌}
use Rattle.audit_text.specs.Texts.{is_unsafe}
use Rattle.audit_text.proofs.texts.put_safe_char.Goals as goal

pub returns-then-is_unsafe : goal.returns-then-is_unsafe
returns-then-is_unsafe g c =
    let is : is_unsafe c.args.c ≡ true = sym (c.is_unsafe.ensures ∙ ap is_unsafe c.from.ensures) ∙ c.if-is_unsafe.true in
    let number = rw (c.from-then-is_unsafe-2.ensures, c.from-then-is_unsafe.ensures) at c.put_hexadecimal.ensures.text in
    subst (Writes _ _) (sym (cond-true (is_unsafe c.args.c) _ _ is)) (c.put.ensures ⨾ number ⨾ c.put-then-is_unsafe.ensures)
