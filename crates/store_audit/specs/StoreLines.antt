-- A line or an object for each store of a form set (own rule).
use Rattle.std.specs.Prelude.{ℕ, ◌==◌, if◌then◌else◌, true, List, [], ◌++◌, Option, Some, None, filter, flat_map, codes, decimal, length}
use Rattle.hii_bytes.specs.Texts.{right_aligned}
use Rattle.ifr_opcodes.specs.Forest.{Node}
use Rattle.ifr_opcodes.specs.Opcode.{number}
use Rattle.ifr_nodes.specs.Nodes.{is_store}
use Rattle.ifr_scopes.specs.Stores.{store_guid, store_id, store_name, store_size}
use Rattle.audit_json.specs.Objects.{guid_member, number_member, object, text_member, word_member}
use Rattle.audit_json.specs.Telling.{told_as}
use Rattle.audit_json.specs.declared.telling.Telling.{Telling}
use Rattle.audit_text.specs.Stores.{store_attributes}
use Rattle.audit_text.specs.Texts.{left_aligned, guid_text, ascii_name}
use Rattle.audit_text.specs.Words.{opcode_name}

abbrev pub size_text : Option ℕ → List ℕ
size_text None = codes "-"
size_text (Some size) = decimal size

abbrev pub store_line : Node → List ℕ
store_line n =
    right_aligned 5 (decimal (store_id n.op)) ++ codes " "
    ++ left_aligned 19 (opcode_name (number n.op)) ++ codes " "
    ++ right_aligned 5 (size_text (store_size n.op)) ++ codes " "
    ++ left_aligned 8 (store_attributes n.op) ++ codes " "
    ++ guid_text true (store_guid n.op) ++ codes " "
    ++ ascii_name (store_name n.op) ++ codes "\n"

-- ---- as an object

abbrev pub size_member : Option ℕ → List ℕ
size_member None = []
size_member (Some size) = number_member (codes "size") size

-- a hyphen alone stands for none
abbrev pub attributes_member : List ℕ → List ℕ
attributes_member words =
    if length words == 1 then [] else word_member (codes "attributes") words

abbrev pub store_members : Node → List ℕ
store_members n =
    number_member (codes "id") (store_id n.op)
    ++ word_member (codes "opcode") (opcode_name (number n.op))
    ++ number_member (codes "at") n.place ++ size_member (store_size n.op)
    ++ attributes_member (store_attributes n.op)
    ++ guid_member (codes "guid") (store_guid n.op)
    ++ text_member (codes "name") (store_name n.op)

abbrev pub store_object : Node → List ℕ
store_object n = object (codes "store") (store_members n)

-- ---- all

abbrev pub store_told : Telling → Node → List ℕ
store_told telling n = told_as telling (store_line n) (store_object n)

-- the stores of a form set, by place
abbrev pub stores_text : Telling → List Node → List ℕ
stores_text telling ns = flat_map (store_told telling) (filter is_store ns)
