-- What is left of what operators put before an operand.
use Rattle.std.specs.Prelude.{ℕ, List}
use Rattle.ifr_expr.specs.code.Expressions.{operators_left}
use Rattle.condition_text.specs.code.Streams.{openings}
use Rattle.condition_text.specs.declared.openings.Openings.{Openings}

abbrev pub openings_left : Openings → List (List ℕ)
openings_left it = openings it.beside (operators_left it.ops)
