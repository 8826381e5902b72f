-- The buffer stores of a form set, what they hold, and their image (UEFI 2.8, 33.3.8.3, EFI_IFR_VARSTORE,
-- EFI_IFR_VARSTORE_EFI and EFI_IFR_VARSTORE_NAME_VALUE; the image is an own rule).
use Rattle.std.specs.Prelude.{unwrap_or, ℕ, ◌≡◌, ◌⊎◌, ◌+◌, ◌==◌, if◌then◌else◌, Option, Some, None, option_map, codes}
use Rattle.std.specs.Prelude.{List, [], ◌++◌, length, map, filter, take, drop}
use Rattle.std.specs.List.{find, filter_map, flat_map}
use Rattle.byteorder.specs.Endian.{little_bytes}
use Rattle.browser_rules.specs.Words.{first}
use Rattle.browser_rules.specs.Opcodes.{row, bytes_in, field_in, Layout, a_store, is_a, is_the, name_behind, FORM_SET}
use Rattle.browser_rules.specs.Opcodes.{VARSTORE, VARSTORE_EFI, VARSTORE_NAME_VALUE}
use Rattle.browser_rules.specs.Forest.{Node}

-- ---- the stores that a form set declares, whatever guards them; one of names and values has no bytes and no name

abbrev pub layout_of : List ℕ → Layout
layout_of op =
    if is_the VARSTORE op then (row VARSTORE).layout
    else if is_the VARSTORE_EFI op then (row VARSTORE_EFI).layout else (row VARSTORE_NAME_VALUE).layout

abbrev pub store_id : Node → ℕ
store_id n = field_in (layout_of n.op) "VarStoreId" n.op

abbrev pub store_guid : Node → List ℕ
store_guid n = bytes_in (layout_of n.op) "Guid" n.op

abbrev pub store_name : Node → List ℕ
store_name n = if is_the VARSTORE_NAME_VALUE n.op then [] else name_behind (layout_of n.op) n.op

abbrev pub store_size : Node → Option ℕ
store_size n = if is_the VARSTORE_NAME_VALUE n.op then None else Some (field_in (layout_of n.op) "Size" n.op)

abbrev pub store_nodes : List Node → List Node
store_nodes ns = filter (λ n. is_a a_store n.op) ns

-- what an image is read and written by: the form set's GUID, and the id and the size of each buffer store by place
pub record Shape : Type 0 where
  pub guid : List ℕ
  pub buffers : List (ℕ × ℕ)

abbrev pub shape_of : List Node → Shape
shape_of ns = record {
  guid = unwrap_or (option_map (λ n. bytes_in (row FORM_SET).layout "Guid" n.op) (first ns)) [];
  buffers = filter_map (λ n. option_map (λ size. (store_id n, size)) (store_size n)) (store_nodes ns);
}

abbrev pub size_of : List Node → ℕ → Option ℕ
size_of ns id = option_map (λ b. b.1) (find (λ b. b.0 == id) (shape_of ns).buffers)

-- ---- what they hold: the bytes for each id, by place

abbrev pub Stores : Type 0
Stores = List (ℕ × List ℕ)

abbrev pub bytes_of : Stores → ℕ → Option (List ℕ)
bytes_of stores id = option_map (λ s. s.1) (find (λ s. s.0 == id) stores)

-- with new bytes in place of those from an offset on, as far as the old ones reach
abbrev pub overwritten : List ℕ → ℕ → List ℕ → List ℕ
overwritten old offset new = take (length old) (take offset old ++ new ++ drop (offset + length new) old)

unfoldable pub with_bytes : Stores → ℕ → ℕ → List ℕ → Stores
with_bytes stores id offset new = map (λ s. if s.0 == id then (s.0, overwritten s.1 offset new) else s) stores

-- ---- the image: a mark, in the form that is written the form set's GUID, the number of stores, and of each its id,
-- its size and its bytes; numbers have two bytes

abbrev pub store_image : ℕ × List ℕ → List ℕ
store_image (id, bytes) = little_bytes 2 id ++ little_bytes 2 (length bytes) ++ bytes

abbrev pub image_behind : List ℕ → Stores → List ℕ
image_behind head stores = head ++ little_bytes 2 (length stores) ++ flat_map store_image stores

unfoldable pub image_of : List ℕ → Stores → List ℕ
image_of guid stores = image_behind (codes "HVS2" ++ guid) stores

-- an image of these stores, which are those of the form set, in the form that is written or in the older one
pub record SpellsImage (shape : Shape) (image : List ℕ) (stores : Stores) : Type 0 where
  pub form : (image ≡ image_of shape.guid stores) ⊎ (image ≡ image_behind (codes "HVS1") stores)
  pub laid : map (λ s. (s.0, length s.1)) stores ≡ shape.buffers
