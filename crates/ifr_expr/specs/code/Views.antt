-- What the values of the code stand for.
use Rattle.std.specs.Prelude.{ℕ, Option, Some, None}
use Rattle.ifr_expr.specs.Values as spec
use Rattle.ifr_expr.specs.declared.value.Outcome.{Outcome}
use Rattle.ifr_expr.specs.declared.value.Outcome.TheVariants as outcome
use Rattle.ifr_expr.specs.declared.value.Value.{Value}
use Rattle.ifr_expr.specs.declared.value.Value.TheVariants.{Undefined, Boolean, Number, Text, Buffer}

abbrev pub value_of : Value → spec.Value
value_of Undefined = spec.undefined
value_of (Boolean b) = spec.boolean b
value_of (Number n) = spec.natural n
value_of (Text units) = spec.text units.now
value_of (Buffer bytes) = spec.buffer bytes.now

-- a number of the code as a value, where there is one
abbrev pub number_or : Option ℕ → spec.Value
number_or None = spec.undefined
number_or (Some n) = spec.natural n

abbrev pub outcome_value : Outcome → spec.Value
outcome_value outcome.Undefined = spec.undefined
outcome_value (outcome.Boolean b) = spec.boolean b
outcome_value (outcome.Number n) = spec.natural n
