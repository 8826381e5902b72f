-- What the characters of a row's value have before them.
use Rattle.std.specs.Prelude.{ℕ, List, [], ◌++◌, codes}
use Rattle.sibt_strings.specs.code.Views as strings
use Rattle.hii_languages.specs.code.Views.{chars_left}
use Rattle.guard_policy.specs.declared.conditions.Conditions.{Ghosts}
use Rattle.form_page.specs.code.Elements.{elements_left}
use Rattle.form_page.specs.code.Pieces.{ascii_left, digits_left}
use Rattle.form_page.specs.RowValues.{later_text}
use Rattle.form_page.specs.declared.value_chars.Behind.{Behind}
use Rattle.form_page.specs.declared.value_chars.Behind.TheVariants.{Nothing, Bracket, Elements}
use Rattle.form_page.specs.declared.value_chars.RowValueChars.{RowValueChars}

-- what stands behind the texts
abbrev pub behind_text : {C : Type 0} {g : Ghosts C} → Behind C g → List ℕ
behind_text Nothing = []
behind_text Bracket = codes ">"
behind_text (Elements elements) = later_text (elements_left elements)

-- the characters of the texts
abbrev pub texts_left : {C : Type 0} {g : Ghosts C} → RowValueChars C g → List ℕ
texts_left it =
    ascii_left it.ascii ++ (digits_left it.hex
    ++ (chars_left it.shown ++ strings.chars_left it.units))

abbrev pub value_chars_left : {C : Type 0} {g : Ghosts C} → RowValueChars C g → List ℕ
value_chars_left it = texts_left it ++ behind_text it.behind
