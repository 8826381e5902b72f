-- What an expression names, as far as it is left.
use Rattle.std.specs.Prelude.{ℕ, Option, Some, None, List, [], ◌∷◌, ◌++◌}
use Rattle.ifr_expr.specs.code.Expressions.{operators_left}
use Rattle.ifr_expr.specs.code.Names.{names_among}
use Rattle.ifr_expr.specs.declared.names.Name.{Name}
use Rattle.ifr_expr.specs.declared.names.Name.TheVariants.{Question}
use Rattle.ifr_expr.specs.declared.names.Names.{Names}

abbrev pub as_list : Option ℕ → List Name
as_list None = []
as_list (Some id) = Question id ∷ []

abbrev pub names_left : Names → List Name
names_left it = as_list it.second ++ names_among (operators_left it.ops)
