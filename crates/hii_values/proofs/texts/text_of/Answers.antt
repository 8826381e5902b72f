use Rattle.std.proofs.Common.{◌≡◌, ◌∙◌, sym, ap, inl, inr, refl, false, Some, None, List, ℕ, chars, cond}
use Rattle.std.specs.Str.{IsUtf8, is_utf8}
use Rattle.std.specs.List.{list_any}
use Rattle.std.proofs.lemmas.Bool.{cases_Bool}
use Rattle.std.proofs.lemmas.Str.{IsUtf8-from_is_utf8, is_utf8-from_IsUtf8}
use Rattle.hii_values.specs.Inputs.{is_text, is_bad_character}
use Rattle.hii_values.proofs.texts.text_of.Goals as goal

-- bytes that are no text
no_text : (bytes : List ℕ) → (IsUtf8 bytes → ⊥) → is_utf8 bytes ≡ false
no_text bytes none = elim (cases_Bool (is_utf8 bytes)) [ inl is ↦ absurd (none (IsUtf8-from_is_utf8 bytes is)) | inr other ↦ other ]

-- a text with these characters
some_text : (bytes text : List ℕ) → text ≡ bytes → IsUtf8 bytes → list_any is_bad_character (chars text) ≡ false → Some text ≡ cond (is_text bytes) (Some bytes) None
some_text bytes text is utf8 fine =
    let yes = is_utf8-from_IsUtf8 bytes utf8 in
    let good : list_any is_bad_character (chars bytes) ≡ false = ap (λ (l : List ℕ). list_any is_bad_character (chars l)) (sym is) ∙ fine in
    rw (yes, good) (ap (λ (l : List ℕ). Some l) is)

pub returns-in_default : goal.returns-in_default
returns-in_default c = let none = no_text c.args.bytes.now c.in_default.ensures.cases.0 in rw none refl

pub returns : goal.returns
returns c = some_text c.args.bytes.now c.in-Ok.text.now c.in-Ok.ensures.cases.0 c.in-Ok.ensures.cases.1 (sym c.has_bad_character.ensures ∙ c.if-has_bad_character.false)
