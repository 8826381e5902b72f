-- How the parts of an image are read, one after the other (own rule).
use Rattle.std.specs.Prelude.{◌≡◌, ◌⊎◌, ◌≤◌, ℕ, List, ◌++◌, length, drop, codes}
use Rattle.hii_bytes.specs.declared.cause.Cause.{Cause}
use Rattle.hii_bytes.specs.declared.cause.Fault.{Fault}
use Rattle.hii_varstore.specs.Faults.{ImagePart, IsPartFault, IsOlder, head_parts, older_head_parts}

-- Parts stand in the image from a place to an end, as these bytes: a fault of later parts is one of all.
pub record Reads (parts : List ImagePart) (bytes image : List ℕ) (place end : ℕ) : Type 0 where
  pub within : end ≤ length image
  pub stand : drop place image ≡ bytes ++ drop end image
  pub passed : (later : List ImagePart) (cause : Cause) (at : ℕ)
      → IsPartFault end later (drop end image) cause at →
      IsPartFault place (parts ++ later) (drop place image) cause at

-- these parts, which begin at a place, have the fault, whatever follows them
abbrev pub IsFaultOf : List ImagePart → List ℕ → ℕ → Fault → Type 0
IsFaultOf parts image place fault =
    (later : List ImagePart) → IsPartFault place (parts ++ later)
    (drop place image) fault.cause fault.place

-- the head of an image, of either form, stands before this place
abbrev pub ReadsHead : List ℕ → List ℕ → ℕ → Type 0
ReadsHead guid image place =
    (IsOlder image × Reads older_head_parts (codes "HVS1") image 0 place)
    ⊎ ((IsOlder image → ⊥) × Reads (head_parts guid) (codes "HVS2" ++ guid) image 0 place)
