use Rattle.std.proofs.Common.{◌≡◌, ◌∙◌, ℕ, max, length, List, ap, sym, decimal}
use Rattle.hii_bytes.proofs.WritingLemmas.{◌⨾◌}
use Rattle.audit_text.specs.Texts.{ascii_name, hex_text}
use Rattle.question_audit.proofs.LineLemmas.{name_length, spaces_behind}
use Rattle.question_audit.proofs.fields.put_field_text.Goals as goal

-- the length of a name that is looked up
shown : (name found : List ℕ) (n : ℕ) → n ≡ max (length found) 1 → found ≡ name → n ≡ length (ascii_name name)
shown name found n e same = e ∙ ap (λ (l : List ℕ). max (length l) 1) same ∙ sym (name_length name)

pub returns-clause-text : goal.returns-clause-text
returns-clause-text g c =
    rw (c.name-name.ensures, c.from.ensures) at
    (c.put_ascii_name.ensures ⨾ c.put.ensures ⨾ c.put_hexadecimal-offset.ensures.text ⨾ c.put-2.ensures ⨾ c.put_number-width.ensures.text ⨾ c.put-3.ensures)

pub returns-clause-left : goal.returns-clause-left
returns-clause-left g c =
    c.saturating_sub-2.ensures
    ∙ spaces_behind _ (hex_text c.args.field.offset) (decimal c.args.field.width) _ _ _ _ _
    (shown _ _ _ c.max.ensures c.name-name.ensures)
    (c.put_hexadecimal-offset.ensures.count ∙ ap (λ (n : ℕ). length (hex_text n)) c.from.ensures)
    c.put_number-width.ensures.count c.saturating_sub-behind_name.ensures c.saturating_sub.ensures
