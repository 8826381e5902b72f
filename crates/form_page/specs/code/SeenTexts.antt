-- The texts of options that are seen for several values.
use Rattle.std.specs.Prelude.{◌≡◌, ◌==◌, ℕ, true, if◌then◌else◌, Option, Some, None, option_map, is_some, List}
use Rattle.std.specs.List.{find}
use Rattle.std.specs.Option.{option_or}
use Rattle.ifr_opcodes.specs.Fields.{option_text}
use Rattle.ifr_opcodes.specs.Forest.{Node}
use Rattle.hii_values.specs.code.MetValues.{is_met, is_sought}
use Rattle.guard_policy.specs.World.{World}
use Rattle.form_page.specs.RowValues.{option_with}
use Rattle.form_page.specs.declared.seen_texts.SeenText.{SeenText}
use Rattle.form_page.specs.declared.seen_texts.SeenTexts.{SeenTexts}

-- the text that is kept for a value, if one is
abbrev pub text_among : List SeenText → ℕ → Option ℕ
text_among texts value = option_map (λ (t : SeenText). t.text) (find (λ (t : SeenText). t.value == value) texts)

-- that with one more text behind, for a value of its own
abbrev pub more_text : Option ℕ → ℕ → ℕ → ℕ → Option ℕ
more_text before its text value = option_or before (if its == value then Some text else None)

-- the text of the option that is seen for a value
abbrev pub seen_text : World → List Node → ℕ → Option ℕ
seen_text w os value = option_map (λ (o : Node). option_text o.op) (option_with w os value)

-- Where there is room, the texts for the values that are sought are those of all options.
abbrev pub TellTexts : World → List Node → SeenTexts → Type 0
TellTexts w all s =
    (value : ℕ) → s.is_whole ≡ true → is_sought s.values value ≡ true
    → text_among s.texts.items value ≡ seen_text w all value

-- what is kept for one value, where these options are left of all
pub record IsFound (w : World) (all left : List Node) (s : SeenTexts) (value : ℕ) : Type 0 where
  pub met : is_met s.values value ≡ is_some (text_among s.texts.items value)
  pub told : option_or (text_among s.texts.items value) (seen_text w left value) ≡ seen_text w all value

abbrev pub AreFound : World → List Node → List Node → SeenTexts → Type 0
AreFound w all left s =
    (value : ℕ) → s.is_whole ≡ true → is_sought s.values value ≡ true → IsFound w all left s value
