-- How facts are told.
use Rattle.std.specs.Prelude.{Bool, true, false, List, ℕ}
use Rattle.audit_json.specs.declared.telling.Telling.{Telling}
use Rattle.audit_json.specs.declared.telling.Telling.TheVariants.{Lines, Objects}

abbrev pub asked : Bool → Telling
asked true = Objects
asked false = Lines

-- what is told so, of the one and the other
abbrev pub told_as : Telling → List ℕ → List ℕ → List ℕ
told_as Lines line object = line
told_as Objects line object = object
