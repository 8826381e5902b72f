-- Texts that have a first character, and those that have none.
use Rattle.std.proofs.Common.{◌≡◌, ℕ, true, false, Option, Some, None, List, [], ◌∷◌, refl}
use Rattle.std.specs.Prelude.{MatchOption, is_some}
use Rattle.question_audit.specs.QuestionLines.{has_no_text}

-- what the first character of a text tells
abbrev pub Begun : List ℕ → List ℕ → Option ℕ → Type 0
Begun text after r = MatchOption r ((text ≡ []) × (after ≡ [])) (λ c. text ≡ c ∷ after)

pub some_text : (text after : List ℕ) (r : Option ℕ) → Begun text after r → is_some r ≡ true → has_no_text text ≡ false
some_text text after None m e = absurd cc
some_text text after (Some c) m e = rw m refl

pub no_text : (text after : List ℕ) (r : Option ℕ) → Begun text after r → is_some r ≡ false → has_no_text text ≡ true
no_text text after None m e = rw m.0 refl
no_text text after (Some c) m e = absurd cc
