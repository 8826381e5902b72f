use Rattle.std.proofs.Common.{◌≡◌, ℕ, true, false, Option, Some, None, List, [], ◌∷◌, codes, refl, sym, ◌∙◌, subst}
use Rattle.std.specs.Prelude.{MatchOption, is_some}
use Rattle.hii_bytes.specs.Watching.{Writes}
use Rattle.hii_languages.specs.code.Views.{chars_left, text_of}
use Rattle.audit_html.specs.Html.{isolated, title_text}
use Rattle.audit_html.proofs.texts.put_title.Goals as goal

-- a title that has a first character, and one that has none
titled : (text after : List ℕ) (r : Option ℕ) → MatchOption r ((text ≡ []) × (after ≡ [])) (λ c. text ≡ c ∷ after) → is_some r ≡ true → isolated text ≡ title_text text
titled text after None m e = absurd cc
titled text after (Some c) m e = rw m refl

untitled : (text after : List ℕ) (r : Option ℕ) → MatchOption r ((text ≡ []) × (after ≡ [])) (λ c. text ≡ c ∷ after) → is_some r ≡ false → isolated (codes "(no title)") ≡ title_text text
untitled text after None m e = rw m.0 refl
untitled text after (Some c) m e = absurd cc

pub returns-then-is_some : goal.returns-then-is_some
returns-then-is_some g c =
    let some = rw c.chars.ensures at c.next.ensures.steps in
    subst (Writes _ _) (titled (text_of c.args.title) (chars_left c.next.new.self) c.next.result some (sym c.is_some.ensures ∙ c.if-is_some.true)) (rw c.chars-then-is_some.ensures at c.put_isolated_shown.ensures)

pub returns-else-is_some : goal.returns-else-is_some
returns-else-is_some g c =
    let some = rw c.chars.ensures at c.next.ensures.steps in
    subst (Writes _ _) (untitled (text_of c.args.title) (chars_left c.next.new.self) c.next.result some (sym c.is_some.ensures ∙ c.if-is_some.false)) c.put_isolated_bytes.ensures
