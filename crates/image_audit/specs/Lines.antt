-- The fields of questions, and what some stores hold in them (own rule).
use Rattle.std.specs.Prelude.{ℕ, zero, suc, ◌+◌, ◌/◌, Bool, true, false, not, ◌&&◌, Option, Some, None, List, [], ◌++◌, length, take, drop, filter, reverse, codes}
use Rattle.std.specs.List.{flat_map}
use Rattle.ifr_opcodes.specs.Forest.{Node}
use Rattle.hii_varstore.specs.Stores.{StoreMap}
use Rattle.hii_values.specs.Types.{is_password}
use Rattle.hii_questions.specs.Changes.{field_bytes, holds_others}
use Rattle.hii_questions.specs.Fields.{Asked, Field, questions}
use Rattle.audit_text.specs.Texts.{digits_of}
use Rattle.question_audit.specs.QuestionLines.{field_text, name_of, store_with}
use Rattle.audit_json.specs.Objects.{number_member, object, text_member}
use Rattle.audit_json.specs.Telling.{told_as}
use Rattle.audit_json.specs.declared.telling.Telling.{Telling}
use Rattle.byteorder.specs.Endian.{little_number}
use Rattle.ifr_opcodes.specs.Fields.{question_id}

-- bytes, the lowest first, as one number, in two hex digits each
abbrev pub number_digits : List ℕ → List ℕ
number_digits bytes = digits_of false (reverse bytes)

abbrev pub number_text : List ℕ → List ℕ
number_text bytes = codes "0x" ++ number_digits bytes

-- bytes of a store from an offset on
abbrev pub piece_line : List Node → ℕ → ℕ → List ℕ → List ℕ
piece_line ns store at bytes =
    field_text ns record { store = store; offset = at; width = length bytes }
    ++ codes "=" ++ number_text bytes ++ codes "\n"

-- as an object, with the id of the question
abbrev pub piece_members : List Node → ℕ → ℕ → ℕ → List ℕ → List ℕ
piece_members ns id store at bytes =
    number_member (codes "id") id ++ text_member (codes "name") (name_of (store_with ns store))
    ++ number_member (codes "offset") at ++ number_member (codes "width") (length bytes)
    ++ number_member (codes "value") (little_number (length bytes) bytes)

abbrev pub piece_object : List Node → ℕ → ℕ → ℕ → List ℕ → List ℕ
piece_object ns id store at bytes = object (codes "set") (piece_members ns id store at bytes)

abbrev pub piece_told : Telling → List Node → ℕ → ℕ → ℕ → List ℕ → List ℕ
piece_told telling ns id store at bytes =
    told_as telling (piece_line ns store at bytes) (piece_object ns id store at bytes)

-- this many pieces of 8 bytes, of which the last may have fewer
abbrev pub pieces_told : ℕ → Telling → List Node → ℕ → ℕ → ℕ → List ℕ → List ℕ
pieces_told zero telling ns id store at bytes = []
pieces_told (suc n) telling ns id store at bytes =
    piece_told telling ns id store at (take 8 bytes)
    ++ pieces_told n telling ns id store (at + 8) (drop 8 bytes)

-- all of them
abbrev pub bytes_told : Telling → List Node → ℕ → ℕ → ℕ → List ℕ → List ℕ
bytes_told telling ns id store at bytes =
    pieces_told ((length bytes + 7) / 8) telling ns id store at bytes

abbrev pub held_told : Telling → List Node → ℕ → Field → Option (List ℕ) → List ℕ
held_told telling ns id field None = []
held_told telling ns id field (Some bytes) = bytes_told telling ns id field.store field.offset bytes

abbrev pub field_told : Telling → List Node → StoreMap → ℕ → Option Field → List ℕ
field_told telling ns stores id None = []
field_told telling ns stores id (Some field) =
    held_told telling ns id field (field_bytes stores (Some field))

-- A question is told that is for no password; where there are other stores, those alone whose fields hold other bytes there.
abbrev pub differs_from : StoreMap → Option StoreMap → Asked → Bool
differs_from stores None q = true
differs_from stores (Some others) q = holds_others stores others q

abbrev pub is_told : StoreMap → Option StoreMap → Asked → Bool
is_told stores others q = not (is_password q.node) && differs_from stores others q

-- the fields of all questions that are told, by place
abbrev pub question_told : Telling → List Node → StoreMap → Asked → List ℕ
question_told telling ns stores q = field_told telling ns stores (question_id q.node.op) q.field

abbrev pub fields_told : Telling → List Node → StoreMap → Option StoreMap → List ℕ
fields_told telling ns stores others =
    flat_map (question_told telling ns stores) (filter (is_told stores others) (questions ns))
