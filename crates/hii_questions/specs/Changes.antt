-- New bytes in a field, and which questions hold other bytes in some stores than in others (own rule).
use Rattle.std.specs.Prelude.{ℕ, Bool, List, not, Option, Some, None}
use Rattle.hii_varstore.specs.Stores.{StoreMap, are_same_bytes, bytes_of_field, with_bytes}
use Rattle.hii_questions.specs.Fields.{Asked, Field}

-- the stores with new bytes in a field
abbrev pub with_field : StoreMap → Option Field → List ℕ → StoreMap
with_field stores None bytes = stores
with_field stores (Some field) bytes = with_bytes stores field.store field.offset bytes

-- the bytes of a field in the stores
abbrev pub field_bytes : StoreMap → Option Field → Option (List ℕ)
field_bytes stores None = None
field_bytes stores (Some field) = bytes_of_field stores field.store field.offset field.width

-- the field of a question holds other bytes in the second stores than in the first
abbrev pub holds_others : StoreMap → StoreMap → Asked → Bool
holds_others one other q = not (are_same_bytes (field_bytes one q.field) (field_bytes other q.field))
