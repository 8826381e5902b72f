-- The references to rules that are left of an expression.
use Rattle.std.specs.Prelude.{Option, Some, None, List, [], ◌∷◌}
use Rattle.ifr_expr.specs.declared.references.RuleReference.{RuleReference}
use Rattle.ifr_expr.specs.code.Expressions.{operators_left}
use Rattle.ifr_expr.specs.References.{references_among}
use Rattle.ifr_expr.specs.declared.references.RuleReferences.{RuleReferences}

abbrev pub as_list : Option RuleReference → List RuleReference
as_list None = []
as_list (Some reference) = reference ∷ []

abbrev pub references_left : RuleReferences → List RuleReference
references_left it = references_among (operators_left it.ops)
