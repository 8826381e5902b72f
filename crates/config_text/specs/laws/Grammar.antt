-- The grammar of configuration texts (UEFI 2.8, 34.2.1 String Grammar, in this project's profile).
--
--   header   = "GUID=" 32 hex "&NAME=" (4 hex)* "&PATH=" (2 hex)*
--   request  = header ("&OFFSET=" number "&WIDTH=" number)*
--   response = header ("&OFFSET=" number "&WIDTH=" number "&VALUE=" digits)*
use Rattle.std.specs.Prelude.{◌≡◌, ℕ, List, [], ◌∷◌, ◌++◌, length, codes}
use Rattle.std.specs.List.{AllZip, flat_map, join_with_byte}
use Rattle.browser_rules.specs.Configuration.{Header, Block}
use Rattle.config_text.specs.laws.Numbers.{IsOffset, IsWidth, AreValueDigits, AreGroups}
use Rattle.config_text.specs.declared.kind.TextKind.{TextKind}
use Rattle.config_text.specs.declared.kind.TextKind.TheVariants.{Ask, Tell}

-- a header's parts: `GUID=` and 32 hex digits, `NAME=` and four for each character, `PATH=` and two for each byte
pub record IsHeader (parts : List (List ℕ)) (named : Header) : Type 0 where
  pub guid_digits : List ℕ
  pub name_digits : List ℕ
  pub path_digits : List ℕ
  pub whole : parts ≡ (codes "GUID=" ++ guid_digits) ∷ (codes "NAME=" ++ name_digits) ∷ (codes "PATH=" ++ path_digits) ∷ []
  pub guid : AreGroups 2 guid_digits named.guid
  pub sixteen : length named.guid ≡ 16
  pub name : AreGroups 4 name_digits named.name
  pub path : AreGroups 2 path_digits named.path

-- a block's parts: `OFFSET=` and a number, `WIDTH=` and a number; in a response then `VALUE=` and digits
abbrev pub IsBlock : TextKind → List (List ℕ) → Block → Type 0
IsBlock Ask parts area = (offset width : List ℕ)
    × (parts ≡ (codes "OFFSET=" ++ offset) ∷ (codes "WIDTH=" ++ width) ∷ [])
    × IsOffset offset area.offset × IsWidth width area.width × (area.digits ≡ [])
IsBlock Tell parts area = (offset width : List ℕ)
    × (parts ≡ (codes "OFFSET=" ++ offset) ∷ (codes "WIDTH=" ++ width) ∷ (codes "VALUE=" ++ area.digits) ∷ [])
    × IsOffset offset area.offset × IsWidth width area.width × AreValueDigits area.width area.digits

-- the parts of several blocks
abbrev pub all_parts : List (List (List ℕ)) → List (List ℕ)
all_parts blocks = flat_map (λ block. block) blocks

-- The text is a header and then blocks, with an `&` between each two parts.
pub record IsConfiguration (kind : TextKind) (text : List ℕ) (named : Header) (areas : List Block) : Type 0 where
  pub header : List (List ℕ)
  pub blocks : List (List (List ℕ))
  pub whole : text ≡ join_with_byte 38 (header ++ all_parts blocks)
  pub is_header : IsHeader header named
  pub are_blocks : AllZip (IsBlock kind) blocks areas
