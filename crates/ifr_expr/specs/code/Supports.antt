-- The ids that are left of an expression's support.
use Rattle.std.specs.Prelude.{ℕ, List, [], ◌∷◌}
use Rattle.std.specs.List.{flat_map}
use Rattle.ifr_expr.specs.code.NamesLeft.{names_left}
use Rattle.ifr_expr.specs.declared.names.Name.{Name}
use Rattle.ifr_expr.specs.declared.names.Name.TheVariants.{Question, This, Rule}
use Rattle.ifr_expr.specs.declared.support.Support.{Support}

-- the question that is named by its id, if one is
abbrev pub id_of : Name → List ℕ
id_of (Question id) = id ∷ []
id_of This = []
id_of (Rule reference) = []

abbrev pub ids_left : Support → List ℕ
ids_left it = flat_map id_of (names_left it.names)
