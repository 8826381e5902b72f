-- What `export` says of an image, and the bytes of a store that it writes (own rule).
use Rattle.std.specs.Prelude.{◌≡◌, ◌⊎◌, ℕ, List, Option, Some, None}
use Rattle.hii_bytes.specs.Faults.{Then}
use Rattle.hii_bytes.specs.declared.cause.Cause.{Cause}
use Rattle.hii_bytes.specs.declared.cause.Cause.TheVariants.{OutOfMemory}
use Rattle.ifr_nodes.specs.Nodes.{nodes_of}
use Rattle.hii_varstore.specs.Faults.{IsImageFault}
use Rattle.hii_varstore.specs.Image.{SpellsImage}
use Rattle.hii_varstore.specs.Layout.{Shape, size_of}
use Rattle.hii_varstore.specs.Stores.{StoreMap, bytes_of}
use Rattle.session_steps.specs.Opening.{forms_bytes, layout_in}
use Rattle.audit_json.specs.declared.telling.Telling.{Telling}
use Rattle.store_audit.specs.Declaring.{IsDeclaredFault}
use Rattle.image_audit.specs.Export.{store_told}
use Rattle.image_audit.specs.Lines.{fields_told}
use Rattle.audit_answers.specs.Endings.{IsRefusal, refused_told}
use Rattle.store_commands.specs.Saying.{no_store_told}
use Rattle.store_commands.specs.Storing.{IsDeclaredBy}
use Rattle.audit_answers.specs.declared.ended.Ended.{Ended}
use Rattle.audit_answers.specs.declared.ended.Ended.TheVariants.{Done, Refused, WriteOut, NoMemory}

-- the faults of a list, as `image` refuses it, then those of an image of its stores
abbrev pub IsImagedFault : List ℕ → ℕ → List ℕ → Cause → ℕ → Type 0
IsImagedFault list n image =
    Then (IsDeclaredFault list n) (IsImageFault (layout_in (forms_bytes list n)) image)

-- These are the forms package of the number and the stores that the image spells.
pub record IsImaged (list : List ℕ) (n : ℕ) (image ifr : List ℕ) (stores : StoreMap) : Type 0 where
  pub declared : IsDeclaredBy list n ifr
  pub spelled : SpellsImage (layout_in ifr) image stores

-- ---- the bytes of a store

-- The bytes are what the image holds in the store of an id, and the text is its line.
pub record IsExported (telling : Telling) (list : List ℕ) (n : ℕ) (image : List ℕ) (id : ℕ) (bytes text : List ℕ) : Type 0 where
  pub ifr : List ℕ
  pub stores : StoreMap
  pub imaged : IsImaged list n image ifr stores
  pub held : bytes_of stores id ≡ Some bytes
  pub line : text ≡ store_told telling (nodes_of ifr) id bytes

-- The list declares no store of the id that holds bytes, and the text says so.
pub record HasNoStore (telling : Telling) (list : List ℕ) (n : ℕ) (image : List ℕ) (id : ℕ) (text : List ℕ) : Type 0 where
  pub ifr : List ℕ
  pub stores : StoreMap
  pub imaged : IsImaged list n image ifr stores
  pub none : size_of (layout_in ifr) id ≡ None
  pub said : text ≡ no_store_told telling id

abbrev pub SaysExport : Telling → List ℕ → ℕ → List ℕ → ℕ → List ℕ → Ended → List ℕ → Type 0
SaysExport telling list n image id bytes Done text = IsExported telling list n image id bytes text
SaysExport telling list n image id bytes WriteOut text = IsExported telling list n image id bytes text
SaysExport telling list n image id bytes Refused text =
    IsRefusal telling (IsImagedFault list n image) text ⊎ HasNoStore telling list n image id text
SaysExport telling list n image id bytes NoMemory text = text ≡ refused_told telling OutOfMemory
SaysExport telling list n image id bytes _ text = ⊥

-- ---- fields, line by line

-- the faults of another image, if there is one
abbrev pub IsOtherFault : Shape → Option (List ℕ) → Cause → ℕ → Type 0
IsOtherFault shape None = λ cause place. ⊥
IsOtherFault shape (Some image) = IsImageFault shape image

-- the faults of a list, then those of one image, then those of the other
abbrev pub IsPairFault : List ℕ → ℕ → List ℕ → Option (List ℕ) → Cause → ℕ → Type 0
IsPairFault list n image other =
    Then (IsImagedFault list n image) (IsOtherFault (layout_in (forms_bytes list n)) other)

-- The other image, if there is one, spells these stores.
abbrev pub SpellsOther : Shape → Option (List ℕ) → Option StoreMap → Type 0
SpellsOther shape None others = others ≡ None
SpellsOther shape (Some image) others =
    (stores : StoreMap) × SpellsImage shape image stores × (others ≡ Some stores)

-- The text tells the fields of the stores that the image spells; with another image those alone that differ in it.
pub record TellsFields (telling : Telling) (list : List ℕ) (n : ℕ) (image : List ℕ) (other : Option (List ℕ)) (text : List ℕ) : Type 0 where
  pub ifr : List ℕ
  pub stores : StoreMap
  pub imaged : IsImaged list n image ifr stores
  pub others : Option StoreMap
  pub spelled : SpellsOther (layout_in ifr) other others
  pub lines : text ≡ fields_told telling (nodes_of ifr) stores others

abbrev pub SaysFields : Telling → List ℕ → ℕ → List ℕ → Option (List ℕ) → Ended → List ℕ → Type 0
SaysFields telling list n image other Done text = TellsFields telling list n image other text
SaysFields telling list n image other Refused text = IsRefusal telling (IsPairFault list n image other) text
SaysFields telling list n image other NoMemory text = text ≡ refused_told telling OutOfMemory
SaysFields telling list n image other _ text = ⊥
