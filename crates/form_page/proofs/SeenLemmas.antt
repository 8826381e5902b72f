-- The texts of options are found one after the other.
use Rattle.std.proofs.Common.{◌≡◌, ℕ, Option, Some, None, List, [], ◌∷◌, ◌++◌, refl, sym, ◌∙◌, inl, inr}
use Rattle.std.specs.Prelude.{◌==◌}
use Rattle.std.specs.Option.{option_or}
use Rattle.std.proofs.lemmas.Bool.{cases_Bool}
use Rattle.ifr_opcodes.specs.Forest.{Node}
use Rattle.guard_policy.specs.World.{World}
use Rattle.form_page.specs.code.SeenTexts.{AreFound, TellTexts, more_text, text_among}
use Rattle.form_page.specs.declared.seen_texts.SeenText.{SeenText}
use Rattle.form_page.specs.declared.seen_texts.SeenTexts.{SeenTexts}

or_none : (o : Option ℕ) → option_or o None ≡ o
or_none None = refl
or_none (Some n) = refl

-- a text behind others
pub text_behind : (texts : List SeenText) (its : SeenText) (value : ℕ) → text_among (texts ++ its ∷ []) value ≡ more_text (text_among texts value) its.value its.text value
text_behind [] its value = elim (cases_Bool (its.value == value)) [
  | inl same ↦ rw same refl
  | inr other ↦ rw other refl
]
text_behind (t ∷ texts) its value = elim (cases_Bool (t.value == value)) [
  | inl same ↦ rw same refl
  | inr other ↦ rw other (text_behind texts its value)
]

-- Where no option is left, all texts are found.
pub all_found : (w : World) (all : List Node) (s : SeenTexts) → AreFound w all [] s → TellTexts w all s
all_found w all s found v is_whole is = sym (or_none (text_among s.texts.items v)) ∙ (found v is_whole is).told
