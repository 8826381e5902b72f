-- The image of a form set's buffer stores (own rule).
use Rattle.std.specs.Prelude.{◌≡◌, ◌⊎◌, ℕ, List, ◌++◌, length, codes}
use Rattle.std.specs.List.{flat_map}
use Rattle.std.specs.Int.{to_le_bytes, w16}
use Rattle.hii_varstore.specs.Layout.{Shape}
use Rattle.hii_varstore.specs.Stores.{Store, StoreMap, shape_of}

-- a store: its id, its size and its bytes
abbrev pub store_image : Store → List ℕ
store_image s = to_le_bytes w16 s.id ++ (to_le_bytes w16 (length s.bytes) ++ s.bytes)

-- how many stores there are, and each by place
abbrev pub stores_image : List Store → List ℕ
stores_image stores = to_le_bytes w16 (length stores) ++ flat_map store_image stores

-- the image in the form that is written: its mark, the GUID and the stores
unfoldable pub image_of : StoreMap → List ℕ
image_of m = codes "HVS2" ++ (m.guid ++ stores_image m.stores)

-- the image in the older form, which has no GUID
unfoldable pub older_image_of : StoreMap → List ℕ
older_image_of m = codes "HVS1" ++ stores_image m.stores

-- The bytes are an image of these stores, in either form, and the stores are those of the form set.
pub record SpellsImage (shape : Shape) (image : List ℕ) (m : StoreMap) : Type 0 where
  pub form : (image ≡ image_of m) ⊎ (image ≡ older_image_of m)
  pub laid : shape_of m ≡ shape
