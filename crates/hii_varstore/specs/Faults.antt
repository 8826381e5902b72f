-- The faults of an image of stores, each by its cause and its place (own rule).
use Rattle.std.specs.Prelude.{◌≡◌, ◌≢◌, ◌⊎◌, ℕ, ◌+◌, ◌<◌, ◌≤◌, List, [], ◌∷◌, ◌++◌, length, take, drop, codes}
use Rattle.std.specs.List.{flat_map}
use Rattle.std.specs.Int.{to_le_bytes, w16}
use Rattle.hii_bytes.specs.declared.cause.Cause.{Cause}
use Rattle.hii_bytes.specs.declared.cause.Cause.TheVariants.{StoreMagic, StoreCount, StoreId, StoreSize, StoreShort, StoreTrailing, StoreFormSet}
use Rattle.hii_varstore.specs.declared.buffer.Buffer.{Buffer}
use Rattle.hii_varstore.specs.Layout.{Shape}

-- A part of an image: bytes that are told, with the cause of the fault that others are, or any bytes of a width.
pub data ImagePart : Type 0 where
  Told : List ℕ → Cause → ImagePart
  Any : ℕ → ImagePart

-- how many bytes a part has
abbrev pub part_width : ImagePart → ℕ
part_width (Told bytes cause) = length bytes
part_width (Any width) = width

-- the part stands at the front of the bytes
abbrev pub IsMet : ImagePart → List ℕ → Type 0
IsMet (Told wanted cause) bytes = take (length wanted) bytes ≡ wanted
IsMet (Any width) bytes = width ≤ length bytes

-- the bytes are long enough for the part, and it does not stand at their front
abbrev pub IsOther : ImagePart → List ℕ → Cause → Type 0
IsOther (Told wanted other) bytes cause =
    (cause ≡ other) × (length wanted ≤ length bytes) × (take (length wanted) bytes ≢ wanted)
IsOther (Any width) bytes cause = ⊥

-- the part is cut short, or other bytes stand there
abbrev pub IsWrong : ImagePart → List ℕ → Cause → Type 0
IsWrong part bytes cause =
    ((cause ≡ StoreShort) × (length bytes < part_width part)) ⊎ IsOther part bytes cause

-- The fault of bytes that begin at a place and are to be these parts: the first part that is wrong, or what is left over.
abbrev pub IsPartFault : ℕ → List ImagePart → List ℕ → Cause → ℕ → Type 0
IsPartFault at [] bytes cause place = (cause ≡ StoreTrailing) × (place ≡ at) × (0 < length bytes)
IsPartFault at (part ∷ parts) bytes cause place =
    (IsWrong part bytes cause × (place ≡ at))
    ⊎ (IsMet part bytes × IsPartFault (at + part_width part) parts
    (drop (part_width part) bytes) cause place)

-- a store: its id, its size and its bytes
abbrev pub store_parts : Buffer → List ImagePart
store_parts b =
    Told (to_le_bytes w16 b.id) StoreId ∷ Told (to_le_bytes w16 b.size) StoreSize ∷ Any b.size ∷ []

-- how many stores there are, and each by place
abbrev pub stores_parts : List Buffer → List ImagePart
stores_parts buffers =
    Told (to_le_bytes w16 (length buffers)) StoreCount ∷ flat_map store_parts buffers

-- what stands before the stores in the form that is written: its mark and the GUID
abbrev pub head_parts : List ℕ → List ImagePart
head_parts guid = Told (codes "HVS2") StoreMagic ∷ Told guid StoreFormSet ∷ []

-- an image in the form that is written
abbrev pub image_parts : Shape → List ImagePart
image_parts shape = head_parts shape.guid ++ stores_parts shape.buffers

-- an image in the older form, whose head is its mark
abbrev pub older_head_parts : List ImagePart
older_head_parts = Told (codes "HVS1") StoreMagic ∷ []

abbrev pub older_image_parts : Shape → List ImagePart
older_image_parts shape = older_head_parts ++ stores_parts shape.buffers

-- An image that begins with the mark of the older form is to be one of that form, any other one of the form that is written.
abbrev pub IsOlder : List ℕ → Type 0
IsOlder image = take 4 image ≡ codes "HVS1"

abbrev pub IsImageFault : Shape → List ℕ → Cause → ℕ → Type 0
IsImageFault shape image cause place =
    (IsOlder image × IsPartFault 0 (older_image_parts shape) image cause place)
    ⊎ ((IsOlder image → ⊥) × IsPartFault 0 (image_parts shape) image cause place)
