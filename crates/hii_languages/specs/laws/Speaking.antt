-- What several string packages say.
use Rattle.std.specs.Prelude.{List, [], ◌∷◌}
use Rattle.browser_rules.specs.Packages.{Package}
use Rattle.browser_rules.specs.Strings.{Spoken}
use Rattle.sibt_strings.specs.laws.Spelling.{Speaks}

-- Each string package says this.
abbrev pub AreSpoken : List Package → List Spoken → Type 0
AreSpoken [] [] = Unit {0}
AreSpoken [] (s ∷ ss) = ⊥
AreSpoken (p ∷ ps) [] = ⊥
AreSpoken (p ∷ ps) (s ∷ ss) = Speaks p s × AreSpoken ps ss
