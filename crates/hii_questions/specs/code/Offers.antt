-- What a caller grants of the inputs of the code.
use Rattle.std.specs.Prelude.{◌≡◌, length, Option, Some, ⊤}
use Rattle.hii_bytes.specs.NumberList.{IsList}
use Rattle.hii_values.specs.declared.input.Input.{Input}
use Rattle.hii_values.specs.declared.input.Input.TheVariants.{List, Field}
use Rattle.hii_questions.specs.Fields as fields

-- What a caller grants of an input for a field: the text of a list is one, and the bytes of a field are as many as it has.
abbrev pub IsGiven : Option fields.Field → Input → Type 0
IsGiven f (List text) = IsList text.now
IsGiven (Some f) (Field bytes) = length bytes.now ≡ f.width
IsGiven f input = ⊤
