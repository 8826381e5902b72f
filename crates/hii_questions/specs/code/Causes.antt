-- The causes of faults of questions, by their numbers.
use Rattle.std.specs.Prelude.{List, [], ◌∷◌}
use Rattle.hii_bytes.specs.declared.cause.Cause.{Cause}
use Rattle.hii_bytes.specs.declared.cause.Cause.TheVariants.{UnknownVarstore, FieldOutside, OptionRange, MixedOptions}

-- the causes by their numbers
abbrev pub question_causes : List Cause
question_causes = UnknownVarstore ∷ FieldOutside ∷ OptionRange ∷ MixedOptions ∷ []
