use Rattle.std.proofs.Common.{◌≡◌, ◌==◌, true, ℕ, List, length, sym, ap, subst, ◌∙◌}
use Rattle.std.proofs.lemmas.Bool.{cond-true}
use Rattle.hii_bytes.specs.Watching.{Writes}
use Rattle.hii_bytes.proofs.WritingLemmas.{◌⨾◌}
use Rattle.audit_text.specs.Words.{opcode_name}
use Rattle.opcode_audit.proofs.words.put_name.Goals as goal

pub returns-then-is_empty : goal.returns-then-is_empty
returns-then-is_empty g c =
    let empty : (length (opcode_name c.args.code) == 0) ≡ true = sym (ap (λ (l : List ℕ). length l == 0) c.opcode_name-name.ensures) ∙ sym c.is_empty.ensures ∙ c.if-is_empty.true in
    subst (Writes _ _) (sym (cond-true (length (opcode_name c.args.code) == 0) _ _ empty)) (c.put.ensures ⨾ c.put_hex.ensures)
