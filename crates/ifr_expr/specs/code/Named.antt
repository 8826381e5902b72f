-- What one operator names.
use Rattle.std.specs.Prelude.{List, [], ◌∷◌}
use Rattle.ifr_expr.specs.declared.names.Name.{Name}
use Rattle.ifr_expr.specs.declared.names.Name.TheVariants.{Question}
use Rattle.ifr_expr.specs.declared.names.Named.{Named}
use Rattle.ifr_expr.specs.declared.names.Named.TheVariants.{Nothing, One, Two}

abbrev pub names_by : Named → List Name
names_by Nothing = []
names_by (One name) = name ∷ []
names_by (Two first second) = Question first ∷ Question second ∷ []
