-- Questions, and the fields that hold their values: bytes of a store (UEFI 2.8, 33.2.5.4 Questions and 33.2.5.6 Storage;
-- where the field is stands in the question's opcode, 33.3.8.2.2 EFI_IFR_QUESTION_HEADER).
use Rattle.std.specs.Prelude.{ℕ, ◌+◌, Bool, false, ◌==◌, ◌&&◌, nat_lt, if◌then◌else◌, Option, Some, None, option_map, List, map, filter}
use Rattle.std.specs.List.{find}
use Rattle.ifr_opcodes.specs.Forest.{Node}
use Rattle.ifr_opcodes.specs.Fields.{question_id, question_store, question_offset}
use Rattle.ifr_nodes.specs.Nodes.{is_question}
use Rattle.hii_varstore.specs.Layout.{Shape, size_of}
use Rattle.hii_varstore.specs.StoreNodes.{layout_of}
use Rattle.hii_values.specs.FieldTypes.{size_of_type}
use Rattle.hii_values.specs.Types.{is_password, type_of}

-- bytes of a store
pub record Field : Type 0 where
  pub store : ℕ
  pub offset : ℕ
  pub width : ℕ

-- how many bytes the field of a question has, if it may have one
abbrev pub field_width : Node → Option ℕ
field_width n = option_map size_of_type (type_of n)

-- A field has a width, and lies in a store of bytes. Store id 0 is no store.
abbrev pub field_in : ℕ → ℕ → Option ℕ → Option ℕ → Option Field
field_in store offset (Some size) (Some width) =
    if store == 0 then None else Some record { store = store; offset = offset; width = width }
field_in store offset _ _ = None

-- the field of a question, where these are the stores
abbrev pub field_at : Shape → Node → Option Field
field_at shape n =
    field_in (question_store n.op) (question_offset n.op) (size_of shape (question_store n.op))
    (field_width n)

-- the field of a question among all nodes
abbrev pub field_of : List Node → Node → Option Field
field_of ns n = field_at (layout_of ns) n

-- a question with its field
pub record Asked : Type 0 where
  pub node : Node
  pub field : Option Field

abbrev pub asked_at : Shape → Node → Asked
asked_at shape n = record { node = n; field = field_at shape n }

abbrev pub asked : List Node → Node → Asked
asked ns n = asked_at (layout_of ns) n

-- the questions among all nodes, by place
abbrev pub questions : List Node → List Asked
questions ns = map (asked ns) (filter is_question ns)

-- the question of an id, which is not 0
abbrev pub question_with : List Node → ℕ → Option Node
question_with ns id =
    if id == 0 then None else find (λ n. is_question n && (question_id n.op == id)) ns

-- a test of a question's field, if it has one
abbrev pub field_passes : (Field → Bool) → Option Field → Bool
field_passes test None = false
field_passes test (Some field) = test field

-- Two fields are the same bytes of one store.
abbrev pub is_same_field : Field → Field → Bool
is_same_field f g = g.store == f.store && g.offset == f.offset && g.width == f.width

-- A question has exactly this field.
abbrev pub has_field : Field → Asked → Bool
has_field f q = field_passes (is_same_field f) q.field

-- Two fields have a byte in common: they lie in one store and have bytes, and each begins before the other's end.
abbrev pub meets : Field → Field → Bool
meets f g =
    f.store == g.store && nat_lt 0 f.width && nat_lt 0 g.width
    && nat_lt f.offset (g.offset + g.width) && nat_lt g.offset (f.offset + f.width)

-- A question is for a password, and its field has one of these bytes.
abbrev pub is_password_in : Field → Asked → Bool
is_password_in f q = is_password q.node && field_passes (meets f) q.field
