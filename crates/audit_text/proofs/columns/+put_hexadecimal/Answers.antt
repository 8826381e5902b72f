use Rattle.std.proofs.Common.{ℕ, ◌+◌, ◌/◌, ◌%◌, ◌∷◌, ◌++◌, [], false, length, List, ap, sym, subst, ◌∙◌, length-append}
use Rattle.std.specs.Fmt.{digit_glyph}
use Rattle.hii_bytes.proofs.WritingLemmas.{◌⨾◌}
use Rattle.hii_bytes.specs.Watching.{Writes, pen_of}
use Rattle.audit_text.specs.Texts.{hex_text}
use Rattle.audit_text.proofs.HexLemmas.{hex_digit, hex_step}
use Rattle.audit_text.proofs.columns.+put_hexadecimal.Goals as goal

pub returns-then-number-lt16-clause-text : goal.returns-then-number-lt16-clause-text
returns-then-number-lt16-clause-text g t c =
    subst (Writes (pen_of g.W.Write.contents c.args.out.now) (pen_of g.W.Write.contents c.put.new.self))
    (ap (λ (d : ℕ). d ∷ []) c.digit_of-digit.ensures ∙ sym (hex_digit c.args.number c.if-number-lt16.true)) c.put.ensures

pub returns-then-number-lt16-clause-count : goal.returns-then-number-lt16-clause-count
returns-then-number-lt16-clause-count g t c = sym (ap (λ (l : List ℕ). length l) (hex_digit c.args.number c.if-number-lt16.true))

pub returns-clause-text : goal.returns-clause-text
returns-clause-text g t c =
    subst (Writes (pen_of g.W.Write.contents c.args.out.now) (pen_of g.W.Write.contents c.put-2.new.self))
    (ap (λ (d : ℕ). hex_text (c.args.number / 16) ++ d ∷ []) c.digit_of-digit.ensures ∙ sym (hex_step c.args.number c.if-number-lt16.false))
    (c.put_hexadecimal-before.ensures.text ⨾ c.put-2.ensures)

pub returns-clause-count : goal.returns-clause-count
returns-clause-count g t c =
    let last : List ℕ = digit_glyph false (c.args.number % 16) ∷ [] in
    ap (λ (n : ℕ). n + 1) c.put_hexadecimal-before.ensures.count ∙ sym (length-append (hex_text (c.args.number / 16)) last)
    ∙ sym (ap (λ (l : List ℕ). length l) (hex_step c.args.number c.if-number-lt16.false))
