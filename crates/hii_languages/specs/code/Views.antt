-- What the values of the program stand for.
use Rattle.std.specs.Prelude.{◌≡◌, ◌≢◌, ℕ, List, [], ◌∷◌, ◌++◌, Option, Some, None, drop, decimal}
use Rattle.browser_rules.specs.Strings.{characters}
use Rattle.sibt_strings.specs.code.Views as strings
use Rattle.hii_languages.specs.declared.choice.Choice.{Choice}
use Rattle.hii_languages.specs.declared.shown.Shown.{Shown}
use Rattle.hii_languages.specs.declared.shown.Shown.TheVariants.{Nothing, Units, Missing}
use Rattle.hii_languages.specs.declared.shown.ShownChars.{ShownChars}

-- the number of the chosen string package
abbrev pub choice_of : Choice → Option ℕ
choice_of choice = choice.number

-- What is shown of a string id that has this text: nothing of the id 0, the text, or that it is missing.
abbrev pub Tells : ℕ → Option (List ℕ) → Shown → Type 0
Tells id text Nothing = id ≡ 0
Tells id text (Units units) = (id ≢ 0) × (text ≡ Some (strings.units_in units))
Tells id text (Missing missing) = (id ≢ 0) × (text ≡ None) × (missing ≡ id)

-- the characters of a shown text
abbrev pub text_of : Shown → List ℕ
text_of Nothing = []
text_of (Units units) = characters (strings.units_in units)
text_of (Missing id) = 35 ∷ decimal id

-- the characters that are left of a shown text
abbrev pub chars_left : ShownChars → List ℕ
chars_left it = drop it.next it.missing.items ++ strings.chars_left it.units
