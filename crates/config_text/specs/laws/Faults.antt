-- What is wrong with a text that is no configuration text: the first fault from left to right (own rule).
use Rattle.std.specs.Prelude.{◌≡◌, ◌≢◌, ◌⊎◌, ℕ, false, List, [], ◌∷◌, ◌++◌, codes}
use Rattle.std.specs.List.{AllZip}
use Rattle.std.specs.Str.Parse.{IsNumeral}
use Rattle.hii_bytes.specs.declared.cause.Cause.{Cause}
use Rattle.hii_bytes.specs.declared.cause.Cause.TheVariants.{BadHeader, BadElement, BadNumber, ValueWidth}
use Rattle.config_text.specs.code.Parts.{text_parts}
use Rattle.config_text.specs.laws.Numbers.{IsOffset, IsWidth}
use Rattle.config_text.specs.code.PartReading.{fits_width}
use Rattle.browser_rules.specs.Configuration.{Header, Block}
use Rattle.config_text.specs.code.Reading.{Wanted, wants_offset, wants_width, wants_value, key_of}
use Rattle.config_text.specs.laws.Grammar.{IsHeader, IsBlock, all_parts}
use Rattle.config_text.specs.declared.kind.TextKind.{TextKind}
use Rattle.config_text.specs.declared.kind.TextKind.TheVariants.{Tell}

-- the parts of a block before the one that is wanted
abbrev pub IsBegun : TextKind → List (List ℕ) → Wanted → Type 0
IsBegun kind parts wants_offset = parts ≡ []
IsBegun kind parts (wants_width n) =
    (offset : List ℕ) × (parts ≡ (codes "OFFSET=" ++ offset) ∷ []) × IsOffset offset n
IsBegun kind parts (wants_value n m) = (kind ≡ Tell) × (offset width : List ℕ)
    × (parts ≡ (codes "OFFSET=" ++ offset) ∷ (codes "WIDTH=" ++ width) ∷ []) × IsOffset offset n × IsWidth width m

-- what stands behind the key is not as wanted
abbrev pub IsBadBody : Wanted → List ℕ → Cause → Type 0
IsBadBody wants_offset body cause = (cause ≡ BadNumber) × ((n : ℕ) → IsOffset body n → ⊥)
IsBadBody (wants_width offset) body cause = (cause ≡ BadNumber) × ((n : ℕ) → IsWidth body n → ⊥)
IsBadBody (wants_value offset width) body cause =
    ((cause ≡ BadNumber) × (IsNumeral 16 body → ⊥))
    ⊎ ((cause ≡ ValueWidth) × IsNumeral 16 body × (fits_width width body ≡ false))

-- what is wrong with the first of these parts: it lacks, it has not the key that is wanted, or what follows is not as wanted
abbrev pub IsBadFirst : Wanted → List (List ℕ) → Cause → Type 0
IsBadFirst wanted [] cause = (cause ≡ BadElement) × (wanted ≢ wants_offset)
IsBadFirst wanted (part ∷ parts) cause =
    ((cause ≡ BadElement) × ((body : List ℕ) → part ≡ key_of wanted ++ body → ⊥))
    ⊎ ((body : List ℕ) × (part ≡ key_of wanted ++ body) × IsBadBody wanted body cause)

-- a good header, whole blocks and the begun one, and then a part that is wrong
pub record IsBadBehind (kind : TextKind) (parts : List (List ℕ)) (cause : Cause) : Type 0 where
  pub header : List (List ℕ)
  pub blocks : List (List (List ℕ))
  pub begun : List (List ℕ)
  pub rest : List (List ℕ)
  pub named : Header
  pub areas : List Block
  pub wanted : Wanted
  pub whole : parts ≡ header ++ (all_parts blocks ++ (begun ++ rest))
  pub is_header : IsHeader header named
  pub are_blocks : AllZip (IsBlock kind) blocks areas
  pub is_begun : IsBegun kind begun wanted
  pub bad : IsBadFirst wanted rest cause

-- a header stands at the front of the parts
pub record BeginsWithHeader (parts : List (List ℕ)) : Type 0 where
  pub header : List (List ℕ)
  pub rest : List (List ℕ)
  pub named : Header
  pub whole : parts ≡ header ++ rest
  pub is_header : IsHeader header named

-- the leftmost fault of a text
abbrev pub IsConfigurationFault : TextKind → List ℕ → Cause → Type 0
IsConfigurationFault kind text cause =
    ((cause ≡ BadHeader) × (BeginsWithHeader (text_parts text) → ⊥)) ⊎ IsBadBehind kind (text_parts text) cause
