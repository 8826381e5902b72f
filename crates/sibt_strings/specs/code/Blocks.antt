-- The blocks of a string package before it is known what texts stand before them, and the blocks of the chapter Strings (UEFI 2.8,
-- 33.3.6.2 String Information).
use Rattle.std.specs.Prelude.{◌≡◌, ℕ, ◌+◌, ◌==◌, if◌then◌else◌, nat_lt, List, [], ◌∷◌, ◌++◌, length, drop, map, replicate, slice_index, Option, None, Some}
use Rattle.browser_rules.specs.Strings.{cut_texts, text_at}
use Rattle.browser_rules.specs.Strings as chapter
use Rattle.hii_bytes.specs.Numbers.{number_in}
use Rattle.sibt_strings.specs.declared.block_types.TheConstants.{END, STRING_UCS2, STRING_UCS2_FONT, STRINGS_UCS2, STRINGS_UCS2_FONT, DUPLICATE, SKIP2, SKIP1, EXT1, EXT2, EXT4}

-- What a block says of the string ids that follow: their texts, that one has the text of another, that so many have none, nothing.
pub data Block : Type 0 where
  Texts : List (List ℕ) → Block
  Duplicate : ℕ → Block
  Skip : ℕ → Block
  Extension : Block

-- What stands at the front of bytes: the end block, a whole block and the bytes behind it, a block whose text is cut, or
-- what is no block or a cut one.
pub data Front : Type 0 where
  End : Front
  Whole : Block → List ℕ → Front
  CutText : Front
  BadBlock : Front

-- a block of these texts, if they are whole
abbrev pub texts_block : Option (List (List ℕ) × List ℕ) → Front
texts_block None = CutText
texts_block (Some t) = Whole (Texts t.0) t.1

-- a block whose fields take this many bytes, if they are there
abbrev pub with_fields : ℕ → List ℕ → Front → Front
with_fields n body front = if nat_lt (length body) n then BadBlock else front

-- An extension of this length, whose own header takes so many bytes. The length counts from the block's first byte (own rule).
abbrev pub extension_block : ℕ → ℕ → List ℕ → Front
extension_block header size bytes =
    if nat_lt size header then BadBlock else if nat_lt (length bytes) size then BadBlock
    else Whole Extension (drop size bytes)

-- the table of blocks, by the number in the first byte (33.3.6.2, Block Types)
unfoldable pub front_of : List ℕ → Front
front_of [] = BadBlock
front_of (kind ∷ body) =
    if kind == END then End
    else if kind == STRING_UCS2 then texts_block (cut_texts 1 body)
    else if kind == STRING_UCS2_FONT
    then with_fields 1 body (texts_block (cut_texts 1 (drop 1 body)))
    else if kind == STRINGS_UCS2
    then with_fields 2 body (texts_block (cut_texts (number_in body 0 2) (drop 2 body)))
    else if kind == STRINGS_UCS2_FONT
    then with_fields 3 body (texts_block (cut_texts (number_in body 1 2) (drop 3 body)))
    else if kind == DUPLICATE
    then with_fields 2 body (Whole (Duplicate (number_in body 0 2)) (drop 2 body))
    else if kind == SKIP2 then with_fields 2 body (Whole (Skip (number_in body 0 2)) (drop 2 body))
    else if kind == SKIP1 then with_fields 1 body (Whole (Skip (slice_index body 0)) (drop 1 body))
    else if kind == EXT1 then with_fields 2 body
    (extension_block 3 (slice_index body 1) (kind ∷ body))
    else if kind == EXT2 then with_fields 3 body
    (extension_block 4 (number_in body 1 2) (kind ∷ body))
    else if kind == EXT4 then with_fields 5 body
    (extension_block 6 (number_in body 1 4) (kind ∷ body))
    else BadBlock

-- These blocks stand one after the other at the front of the bytes, and the rest behind them.
abbrev pub Leads : List ℕ → List Block → List ℕ → Type 0
Leads bytes [] rest = rest ≡ bytes
Leads bytes (block ∷ blocks) rest =
    (behind : List ℕ) × (front_of bytes ≡ Whole block behind) × Leads behind blocks rest

-- the bytes are these blocks and an end block; bytes behind it are ignored (own rule)
abbrev pub AreBlocks : List ℕ → List Block → Type 0
AreBlocks bytes blocks = (rest : List ℕ) × Leads bytes blocks rest × (front_of rest ≡ End)

-- behind whole blocks this stands at this place
abbrev pub StandsAt : List ℕ → Front → ℕ → Type 0
StandsAt bytes front place =
    (blocks : List Block) × (rest : List ℕ) × Leads bytes blocks rest × (front_of rest ≡ front)
    × (place + length rest ≡ length bytes)

-- ---- with the texts before them

-- the texts that a block adds to those before it
abbrev pub added_by : chapter.Texts → Block → chapter.Texts
added_by texts (Texts more) = map Some more
added_by texts (Duplicate id) = text_at texts id ∷ []
added_by texts (Skip count) = replicate count None
added_by texts Extension = []

-- the texts so far, and those of one block more
abbrev pub with_block : chapter.Texts → Block → chapter.Texts
with_block texts block = texts ++ added_by texts block

abbrev pub with_blocks : chapter.Texts → List Block → chapter.Texts
with_blocks texts [] = texts
with_blocks texts (block ∷ blocks) = with_blocks (with_block texts block) blocks

-- the text of each id from 1 on, or nothing, by the blocks
abbrev pub texts_said : List Block → chapter.Texts
texts_said blocks = with_blocks [] blocks

-- what stands at the front of bytes, behind these texts
abbrev pub front_with : chapter.Texts → Front → chapter.Front
front_with texts End = chapter.end_block
front_with texts (Whole block rest) = chapter.block (added_by texts block) rest
front_with texts CutText = chapter.cut_block
front_with texts BadBlock = chapter.no_block
