-- The texts from which defaults are taken, where they are asked for.
use Rattle.std.specs.Prelude.{◌≡◌, ℕ, Option, Some, None, List, []}
use Rattle.browser_rules.specs.Faults.{string_faults}
use Rattle.browser_rules.specs.Strings.{Spoken, spoken_in}

abbrev pub AreTexts : Option ℕ → List ℕ → Option (List Spoken) → Type 0
AreTexts None list texts = texts ≡ None
AreTexts (Some class) list None = ⊥
AreTexts (Some class) list (Some spoken) = (string_faults list ≡ []) × (spoken ≡ spoken_in list)
