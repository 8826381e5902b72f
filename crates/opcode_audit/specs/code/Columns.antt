-- Fields of the tables of the code as those of the standard.
use Rattle.std.specs.Prelude.{ℕ, ◌+◌, Option, Some, None, List, [], ◌∷◌, ◌++◌}
use Rattle.opcode_audit.specs.code.Names.{text_of}
use Rattle.opcode_audit.specs.Layouts as layouts
use Rattle.opcode_audit.specs.Layouts.{in_decimal, in_hex, a_text, a_guid, the_rest, to_nul, listed_so_many}
use Rattle.browser_rules.specs.Opcodes.{two_byte_numbers}
use Rattle.opcode_audit.specs.Facts as facts
use Rattle.opcode_audit.specs.Facts.{a_number, some_bits, an_id, a_guid_of, some_bytes, a_name, some_numbers}
use Rattle.opcode_audit.specs.declared.facts.Fact.{Fact}
use Rattle.opcode_audit.specs.declared.field.Value.{Value}
use Rattle.opcode_audit.specs.declared.field.Value.TheVariants as value
use Rattle.opcode_audit.specs.declared.field.Field.{Field}
use Rattle.opcode_audit.specs.declared.field.Field.TheVariants.{Decimal, Hex, Text, Guid, Rest, ToNul, Listed}
use Rattle.opcode_audit.specs.declared.field.Width.{Width}
use Rattle.opcode_audit.specs.declared.field.Width.TheVariants.{One, Two, Four, Eight}
use Rattle.opcode_audit.specs.declared.layouts.Head.{Head}
use Rattle.opcode_audit.specs.declared.layouts.Head.TheVariants.{Nothing, Statement, Question}
use Rattle.opcode_audit.specs.declared.layouts.Layout.{Layout}
use Rattle.opcode_audit.specs.declared.layouts.TheConstants.{STATEMENT, QUESTION}

abbrev pub bytes_in : Width → ℕ
bytes_in One = 1
bytes_in Two = 2
bytes_in Four = 4
bytes_in Eight = 8

abbrev pub field_of : Field → layouts.Field
field_of (Decimal name width) = record { name = text_of name; width = bytes_in width; kind = in_decimal }
field_of (Hex name width) = record { name = text_of name; width = bytes_in width; kind = in_hex }
field_of (Text name) = record { name = text_of name; width = 2; kind = a_text }
field_of (Guid name) = record { name = text_of name; width = 16; kind = a_guid }
field_of (Rest name) = record { name = text_of name; width = 1; kind = the_rest }
field_of (ToNul name) = record { name = text_of name; width = 1; kind = to_nul }
field_of (Listed name count) = record { name = text_of name; width = 2; kind = listed_so_many count }

abbrev pub value_of : Value → facts.Value
value_of (value.Number n) = a_number n
value_of (value.Bits n) = some_bits n
value_of (value.Id n) = an_id n
value_of (value.Guid guid) = a_guid_of guid.bytes.now
value_of (value.Bytes bytes) = some_bytes bytes.now
value_of (value.Name bytes) = a_name bytes.now
value_of (value.Numbers bytes) = some_numbers (two_byte_numbers bytes.now)

abbrev pub fact_of : Fact → facts.Fact
fact_of f = record { name = text_of f.name; value = value_of f.value }

abbrev pub listed : List (Option Field) → List layouts.Field
listed [] = []
listed (None ∷ fields) = listed fields
listed (Some field ∷ fields) = field_of field ∷ listed fields

abbrev pub head_of : Head → List layouts.Field
head_of Nothing = []
head_of Statement = listed STATEMENT
head_of Question = listed QUESTION

abbrev pub fields_in : Layout → List layouts.Field
fields_in layout =
    head_of layout.head ++ listed (layout.first ∷ layout.second ∷ layout.third ∷ layout.fourth ∷ [])

-- how many bytes fields have
abbrev pub size_of : List layouts.Field → ℕ
size_of [] = 0
size_of (f ∷ fs) = f.width + size_of fs
