-- What the inputs of the code stand for.
use Rattle.std.specs.Prelude.{◌≡◌, length, ⊤}
use Rattle.hii_bytes.specs.NumberList.{IsList, numbers_of}
use Rattle.hii_values.specs.FieldTypes.{FieldType, size_of_type}
use Rattle.hii_values.specs.Inputs.{Offer, whole, raw, utf8, units, listed, elements, field}
use Rattle.hii_values.specs.declared.input.Input.{Input}
use Rattle.hii_values.specs.declared.input.Input.TheVariants.{Number, Raw, Utf8, Units, List, Elements, Field}

abbrev pub offer_of : Input → Offer
offer_of (Number n) = whole n
offer_of (Raw bits) = raw bits
offer_of (Utf8 bytes) = utf8 bytes.now
offer_of (Units bytes) = units bytes.now
offer_of (List text) = listed (numbers_of text.now)
offer_of (Elements bytes) = elements bytes.now
offer_of (Field bytes) = field bytes.now

-- The text of a list is one.
abbrev pub HasList : Input → Type 0
HasList (List text) = IsList text.now
HasList input = ⊤

-- The bytes of a field are as many as the field has.
abbrev pub HasField : FieldType → Input → Type 0
HasField t (Field bytes) = length bytes.now ≡ size_of_type t
HasField t input = ⊤
