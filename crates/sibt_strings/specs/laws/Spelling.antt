-- The blocks of a string package, and the bytes that spell them (UEFI 2.8, 33.3.6.2 String Information).
use Rattle.std.specs.Prelude.{◌≡◌, ℕ, ◌+◌, false, ◌==◌, ◌&&◌, List, [], ◌∷◌, ◌++◌, length, map, Some, ⊤}
use Rattle.std.specs.List.{AllByRecursion, flat_map}
use Rattle.hii_bytes.specs.Numbers.{number_in}
use Rattle.browser_rules.specs.Packages.{Package}
use Rattle.browser_rules.specs.Strings.{Spoken, language_of}
use Rattle.browser_rules.specs.Strings as chapter
use Rattle.sibt_strings.specs.code.Blocks.{Block, Texts, Duplicate, Skip, Extension, added_by, texts_said}
use Rattle.sibt_strings.specs.code.Parts.{HasFixedPart, blocks_of}
use Rattle.sibt_strings.specs.declared.block_types.TheConstants.{END, STRING_UCS2, STRING_UCS2_FONT, STRINGS_UCS2, STRINGS_UCS2_FONT, DUPLICATE, SKIP2, SKIP1, EXT1, EXT2, EXT4}

-- A block with its fields: texts without their zero units, and the bytes of each number.
pub data WholeBlock : Type 0 where
  string_ucs2 : (text : List ℕ) → WholeBlock
  string_ucs2_font : (font : ℕ) (text : List ℕ) → WholeBlock
  strings_ucs2 : (count : List ℕ) (texts : List (List ℕ)) → WholeBlock
  strings_ucs2_font : (font : ℕ) (count : List ℕ) (texts : List (List ℕ)) → WholeBlock
  duplicate : (id : List ℕ) → WholeBlock
  skip2 : (count : List ℕ) → WholeBlock
  skip1 : (count : ℕ) → WholeBlock
  ext1 : (kind size : ℕ) (body : List ℕ) → WholeBlock
  ext2 : (kind : ℕ) (size body : List ℕ) → WholeBlock
  ext4 : (kind : ℕ) (size body : List ℕ) → WholeBlock

-- A text is units of two bytes, none of which is zero.
abbrev pub IsText : List ℕ → Type 0
IsText [] = ⊤
IsText (low ∷ []) = ⊥
IsText (low ∷ high ∷ rest) = ((low == 0) && (high == 0) ≡ false) × IsText rest

-- These bytes, so many of them, are this number.
pub record SpellsNumber (bytes : List ℕ) (width n : ℕ) : Type 0 where
  pub long : length bytes ≡ width
  pub is : number_in bytes 0 width ≡ n

-- The fields fit: texts are texts, a count is that of the texts, and the length of an extension counts from its first byte
-- (own rule).
abbrev pub HasGoodFields : WholeBlock → Type 0
HasGoodFields (string_ucs2 text) = IsText text
HasGoodFields (string_ucs2_font font text) = IsText text
HasGoodFields (strings_ucs2 count texts) = SpellsNumber count 2 (length texts) × AllByRecursion IsText texts
HasGoodFields (strings_ucs2_font font count texts) =
    SpellsNumber count 2 (length texts) × AllByRecursion IsText texts
HasGoodFields (duplicate id) = length id ≡ 2
HasGoodFields (skip2 count) = length count ≡ 2
HasGoodFields (skip1 count) = ⊤
HasGoodFields (ext1 kind size body) = size ≡ 3 + length body
HasGoodFields (ext2 kind size body) = SpellsNumber size 2 (4 + length body)
HasGoodFields (ext4 kind size body) = SpellsNumber size 4 (6 + length body)

-- a text with its zero unit
abbrev pub spell_text : List ℕ → List ℕ
spell_text text = text ++ 0 ∷ 0 ∷ []

abbrev pub spell_texts : List (List ℕ) → List ℕ
spell_texts texts = flat_map spell_text texts

-- the bytes of a block
abbrev pub spell : WholeBlock → List ℕ
spell (string_ucs2 text) = STRING_UCS2 ∷ spell_text text
spell (string_ucs2_font font text) = STRING_UCS2_FONT ∷ font ∷ spell_text text
spell (strings_ucs2 count texts) = STRINGS_UCS2 ∷ count ++ spell_texts texts
spell (strings_ucs2_font font count texts) =
    STRINGS_UCS2_FONT ∷ font ∷ count ++ spell_texts texts
spell (duplicate id) = DUPLICATE ∷ id
spell (skip2 count) = SKIP2 ∷ count
spell (skip1 count) = SKIP1 ∷ count ∷ []
spell (ext1 kind size body) = EXT1 ∷ kind ∷ size ∷ body
spell (ext2 kind size body) = EXT2 ∷ kind ∷ size ++ body
spell (ext4 kind size body) = EXT4 ∷ kind ∷ size ++ body

-- what a block says of the string ids that follow
abbrev pub said : WholeBlock → Block
said (string_ucs2 text) = Texts (text ∷ [])
said (string_ucs2_font font text) = Texts (text ∷ [])
said (strings_ucs2 count texts) = Texts texts
said (strings_ucs2_font font count texts) = Texts texts
said (duplicate id) = Duplicate (number_in id 0 2)
said (skip2 count) = Skip (number_in count 0 2)
said (skip1 count) = Skip count
said (ext1 kind size body) = Extension
said (ext2 kind size body) = Extension
said (ext4 kind size body) = Extension

-- the texts that a block adds to those before it
abbrev pub added : chapter.Texts → WholeBlock → chapter.Texts
added texts block = added_by texts (said block)

-- The bytes are these blocks, one after the other, and an end block; bytes behind it are ignored (own rule).
pub record AreSpelled (bytes : List ℕ) (blocks : List WholeBlock) : Type 0 where
  pub fitting : AllByRecursion HasGoodFields blocks
  pub rest : List ℕ
  pub whole : bytes ≡ flat_map spell blocks ++ END ∷ rest

-- A string package that says this: its language, and the texts of the blocks that are spelled in it.
pub record Speaks (p : Package) (spoken : Spoken) : Type 0 where
  pub fixed : HasFixedPart p.bytes
  pub language : language_of p ≡ Some spoken.language
  pub whole_blocks : List WholeBlock
  pub are : AreSpelled (blocks_of p.bytes) whole_blocks
  pub texts : spoken.texts ≡ texts_said (map said whole_blocks)
