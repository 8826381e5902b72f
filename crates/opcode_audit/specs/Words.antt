-- The words for what is known of an opcode, in a line and in an object (own rule).
use Rattle.std.specs.Prelude.{ℕ, ◌==◌, if◌then◌else◌, true, false, Some, List, [], ◌∷◌, ◌++◌, codes, decimal, length}
use Rattle.std.specs.List.{flat_map}
use Rattle.browser_rules.specs.Opcodes.{number}
use Rattle.browser_rules.specs.Strings.{Spoken, shown}
use Rattle.hii_bytes.specs.Texts.{hex_of}
use Rattle.audit_json.specs.Json.{json_text}
use Rattle.audit_json.specs.Objects.{quoted}
use Rattle.audit_text.specs.Texts.{digits_of, guid_text, hex_text}
use Rattle.audit_text.specs.Words.{opcode_name}
use Rattle.opcode_audit.specs.Facts.{Fact, Value, a_number, some_bits, an_id, a_guid_of, some_bytes, a_name, some_numbers, opcode_facts}

-- the text of a string id in the first string package
abbrev pub said_text : List Spoken → ℕ → List ℕ
said_text spoken id = json_text (shown spoken (Some 0) id)

abbrev pub behind_comma : ℕ → List ℕ
behind_comma n = codes "," ++ decimal n

abbrev pub numbers_text : List ℕ → List ℕ
numbers_text [] = []
numbers_text (n ∷ ns) = decimal n ++ flat_map behind_comma ns

-- the name of a number, or the number in hex digits
abbrev pub name_or_number : ℕ → List ℕ
name_or_number code = if length (opcode_name code) == 0 then codes "0x" ++ hex_of code else opcode_name code

-- ---- in a line

-- behind each string id but 0 stands its text
abbrev pub value_text : List Spoken → Value → List ℕ
value_text spoken (a_number n) = decimal n
value_text spoken (some_bits n) = codes "0x" ++ hex_text n
value_text spoken (an_id id) = decimal id ++ (if id == 0 then [] else codes " " ++ said_text spoken id)
value_text spoken (a_guid_of bytes) = guid_text true bytes
value_text spoken (some_bytes bytes) = digits_of false bytes
value_text spoken (a_name name) = json_text name
value_text spoken (some_numbers ns) = numbers_text ns

abbrev pub fact_text : List Spoken → Fact → List ℕ
fact_text spoken f = codes " " ++ f.name ++ codes "=" ++ value_text spoken f.value

-- the name of an opcode, and its fields
abbrev pub opcode_words : List Spoken → List ℕ → List ℕ
opcode_words spoken op = name_or_number (number op) ++ flat_map (fact_text spoken) (opcode_facts op)

-- ---- in an object

abbrev pub value_json : Value → List ℕ
value_json (a_number n) = decimal n
value_json (some_bits n) = decimal n
value_json (an_id id) = decimal id
value_json (a_guid_of bytes) = quoted (guid_text true bytes)
value_json (some_bytes bytes) = quoted (digits_of false bytes)
value_json (a_name name) = json_text name
value_json (some_numbers ns) = codes "[" ++ numbers_text ns ++ codes "]"

-- behind each string id but 0 stands its text as a member of its own
abbrev pub text_json : List Spoken → List ℕ → Value → List ℕ
text_json spoken name (an_id id) =
    if id == 0 then [] else codes ",\"" ++ name ++ codes "Text\":" ++ said_text spoken id
text_json spoken name _ = []

abbrev pub fact_json : List Spoken → Fact → List ℕ
fact_json spoken f =
    codes "\"" ++ f.name ++ codes "\":" ++ value_json f.value ++ text_json spoken f.name f.value

abbrev pub facts_json : List Spoken → List Fact → List ℕ
facts_json spoken [] = []
facts_json spoken (f ∷ fs) = fact_json spoken f ++ flat_map (λ g. codes "," ++ fact_json spoken g) fs
