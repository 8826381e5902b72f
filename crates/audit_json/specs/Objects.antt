-- Objects of JSON, one a line (RFC 8259; which members stand in one, and in which order, is an own rule).
use Rattle.std.specs.Prelude.{ℕ, Bool, true, false, if◌then◌else◌, List, [], ◌∷◌, ◌++◌, codes, decimal}
use Rattle.std.specs.List.{flat_map}
use Rattle.hii_bytes.specs.Cause.{name_of, number_of}
use Rattle.hii_bytes.specs.declared.cause.Cause.{Cause}
use Rattle.hii_bytes.specs.declared.cause.Fault.{Fault}
use Rattle.audit_text.specs.Texts.{guid_text}
use Rattle.audit_json.specs.Json.{json_text}

-- ---- members, each behind another

abbrev pub member_key : List ℕ → List ℕ
member_key key = codes ",\"" ++ key ++ codes "\":"

abbrev pub member : List ℕ → List ℕ → List ℕ
member key value = member_key key ++ value

abbrev pub number_member : List ℕ → ℕ → List ℕ
number_member key n = member key (decimal n)

abbrev pub text_member : List ℕ → List ℕ → List ℕ
text_member key characters = member key (json_text characters)

-- a text none of whose characters is escaped
abbrev pub quoted : List ℕ → List ℕ
quoted text = codes "\"" ++ text ++ codes "\""

abbrev pub word_member : List ℕ → List ℕ → List ℕ
word_member key word = member key (quoted word)

-- a GUID in capitals
abbrev pub guid_member : List ℕ → List ℕ → List ℕ
guid_member key guid = word_member key (guid_text true guid)

-- a fact that is so; of one that is not there is no member
abbrev pub true_member : List ℕ → List ℕ
true_member key = member key (codes "true")

-- ---- arrays

-- values, with a comma between each two
abbrev pub joined : List (List ℕ) → List ℕ
joined [] = []
joined (value ∷ values) = value ++ flat_map (λ other. codes "," ++ other) values

-- a member that is an array, up to the last of its values; without any there is no member
abbrev pub array_begun : List ℕ → List (List ℕ) → List ℕ
array_begun key [] = []
array_begun key (value ∷ values) = member_key key ++ codes "[" ++ joined (value ∷ values)

-- whether there are no values
abbrev pub has_none : List (List ℕ) → Bool
has_none [] = true
has_none (value ∷ values) = false

-- what stands before a value of an array
abbrev pub before_item : List ℕ → Bool → List ℕ
before_item key is_first = if is_first then member_key key ++ codes "[" else codes ","

-- what stands behind the last one
abbrev pub array_end : Bool → List ℕ
array_end is_empty = if is_empty then [] else codes "]"

abbrev pub array_member : List ℕ → List (List ℕ) → List ℕ
array_member key values = array_begun key values ++ array_end (has_none values)

-- ---- an object within another one

abbrev pub first_key : List ℕ → List ℕ
first_key key = codes "\"" ++ key ++ codes "\":"

abbrev pub first_member : List ℕ → List ℕ → List ℕ
first_member key value = first_key key ++ value

abbrev pub inner_object : List ℕ → List ℕ
inner_object members = codes "{" ++ members ++ codes "}"

-- ---- objects

-- the first member of each says of which kind it is
abbrev pub object_kind : List ℕ → List ℕ
object_kind word = codes "{\"kind\":\"" ++ word ++ codes "\""

abbrev pub object : List ℕ → List ℕ → List ℕ
object word members = object_kind word ++ members ++ codes "}\n"

-- a fault at a place, as a member
abbrev pub fault_members : Fault → List ℕ
fault_members fault =
    first_member (codes "cause") (decimal (number_of fault.cause))
    ++ text_member (codes "name") (name_of fault.cause) ++ number_member (codes "at") fault.place

abbrev pub fault_member : List ℕ → Fault → List ℕ
fault_member key fault = member key (inner_object (fault_members fault))

-- ---- how a command ends that is refused

-- with a line of its own
abbrev pub error_object : List ℕ → List ℕ
error_object line = object (codes "error") (text_member (codes "text") line)

abbrev pub cause_members : Cause → List ℕ
cause_members cause = number_member (codes "cause") (number_of cause) ++ text_member (codes "name") (name_of cause)

-- by a cause that has no place
abbrev pub refused_object : Cause → List ℕ
refused_object cause = object (codes "refused") (cause_members cause)

-- by a fault at a place
abbrev pub refused_at_object : Fault → List ℕ
refused_at_object fault =
    object (codes "refused") (cause_members fault.cause ++ number_member (codes "at") fault.place)
