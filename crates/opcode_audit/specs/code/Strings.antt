-- What is kept of the first string package.
use Rattle.std.specs.Prelude.{Option, Some, None, List, [], ◌∷◌}
use Rattle.browser_rules.specs.Strings.{Spoken}

abbrev pub listed : Option Spoken → List Spoken
listed None = []
listed (Some spoken) = spoken ∷ []
