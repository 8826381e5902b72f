-- What the buffer stores of a form set hold: a finite map from the ids of the stores to their bytes (own rule).
use Rattle.std.specs.Prelude.{ℕ, ◌+◌, ◌==◌, Bool, true, nat_eq, if◌then◌else◌, List, ◌++◌, length, map, take, drop, replicate, slice_get, slice_range, Option, Some, option_and_then, option_map}
use Rattle.std.specs.Cmp.Lexicographic.{pointwise}
use Rattle.std.specs.List.{find}
use Rattle.hii_varstore.specs.declared.buffer.Buffer.{Buffer}
use Rattle.hii_varstore.specs.Layout.{Shape}

-- the bytes that the store of an id holds
pub record Store : Type 0 where
  pub id : ℕ
  pub bytes : List ℕ

-- the form set's GUID, and its buffer stores by place with their bytes
pub record StoreMap : Type 0 where
  pub guid : List ℕ
  pub stores : List Store

-- which stores these are
abbrev pub buffer_of : Store → Buffer
buffer_of s = record { id = s.id; size = length s.bytes }

abbrev pub shape_of : StoreMap → Shape
shape_of m = record { guid = m.guid; buffers = map buffer_of m.stores }

-- stores that hold zeros alone
abbrev pub zeros_in : Buffer → Store
zeros_in b = record { id = b.id; bytes = replicate b.size 0 }

abbrev pub zeros_of : Shape → StoreMap
zeros_of shape = record { guid = shape.guid; stores = map zeros_in shape.buffers }

-- the bytes of the store of an id
abbrev pub bytes_of : StoreMap → ℕ → Option (List ℕ)
bytes_of m id = option_map (λ s. s.bytes) (find (λ s. s.id == id) m.stores)

-- one of them
abbrev pub byte_of : StoreMap → ℕ → ℕ → Option ℕ
byte_of m id at = option_and_then (λ bytes. slice_get bytes at) (bytes_of m id)

-- the bytes of a range of the store of an id
abbrev pub bytes_of_field : StoreMap → ℕ → ℕ → ℕ → Option (List ℕ)
bytes_of_field m id offset width =
    option_map (λ bytes. slice_range bytes offset (offset + width)) (bytes_of m id)

-- the bytes of two ranges are the same, where both are there
abbrev pub are_same_bytes : Option (List ℕ) → Option (List ℕ) → Bool
are_same_bytes (Some xs) (Some ys) = pointwise nat_eq xs ys
are_same_bytes _ _ = true

-- bytes, with new ones in place of those from an offset on, as far as the bytes reach
abbrev pub overwritten : List ℕ → ℕ → List ℕ → List ℕ
overwritten old offset new =
    take (length old) (take offset old ++ (new ++ drop (offset + length new) old))

abbrev pub store_with : Store → ℕ → List ℕ → Store
store_with s offset new = record { id = s.id; bytes = overwritten s.bytes offset new }

-- the stores, with new bytes in the store of an id from an offset on
unfoldable pub with_bytes : StoreMap → ℕ → ℕ → List ℕ → StoreMap
with_bytes m id offset new =
    record {
      guid = m.guid;
      stores = map (λ (s : Store). if s.id == id then store_with s offset new
          else s) m.stores;
    }
