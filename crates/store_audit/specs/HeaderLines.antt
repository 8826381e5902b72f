-- The header with which a configuration text names a store, for each store that holds bytes (own rule; the header is that of the chapter
-- Configuration: UEFI 2.8, 34.2.1 String Grammar).
use Rattle.std.specs.Prelude.{◌≡◌, ℕ, List, [], ◌++◌, flat_map, codes, Ok}
use Rattle.browser_rules.specs.Configuration.{Header, request_in, response_in, response_text}
use Rattle.ifr_opcodes.specs.Forest.{Node}
use Rattle.audit_json.specs.Objects.{member, number_member, object, quoted}
use Rattle.audit_json.specs.Telling.{told_as}
use Rattle.audit_json.specs.declared.telling.Telling.{Telling}
use Rattle.ifr_scopes.specs.Stores.{store_guid, store_id, store_name}
use Rattle.store_audit.specs.Fillings.{buffer_stores}

-- what names a store of a list with this device path: its GUID, its name, each byte of it a character, and the device path
abbrev pub naming : List ℕ → Node → Header
naming path n = record { guid = store_guid n.op; name = store_name n.op; path = path }

-- the header, as a response without blocks is written
abbrev pub header_text : Header → List ℕ
header_text header = response_text header [] []

abbrev pub header_line : List ℕ → Node → List ℕ
header_line path n = header_text (naming path n) ++ codes "\n"

abbrev pub header_object : List ℕ → Node → List ℕ
header_object path n =
    object (codes "header") (number_member (codes "id") (store_id n.op)
    ++ member (codes "header") (quoted (header_text (naming path n))))

abbrev pub header_told : Telling → List ℕ → Node → List ℕ
header_told telling path n = told_as telling (header_line path n) (header_object path n)

-- the stores that hold bytes, by place
abbrev pub headers_text : Telling → List ℕ → List Node → List ℕ
headers_text telling path ns = flat_map (header_told telling path) (buffer_stores ns)

-- A request and a response are read of the text, both with this header and without blocks.
pub record IsReadBack (header : Header) : Type 0 where
  pub request : request_in (header_text header) ≡ Ok (header, [])
  pub response : response_in (header_text header) ≡ Ok (header, [])
