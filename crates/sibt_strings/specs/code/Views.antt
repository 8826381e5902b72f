-- What the values of the program stand for.
use Rattle.std.specs.Prelude.{◌≡◌, ◌⊎◌, ℕ, zero, suc, ◌<◌, ◌≤◌, length, List, [], ◌∷◌, ◌++◌, Option, None, Some}
use Rattle.hii_bytes.specs.declared.cause.Cause.TheVariants.{StringBlock, StringText}
use Rattle.hii_bytes.specs.declared.cause.Fault.{Fault}
use Rattle.browser_rules.specs.Strings.{Spoken, characters, cut_texts, text_at}
use Rattle.sibt_strings.specs.code.Blocks as spec
use Rattle.sibt_strings.specs.declared.block.Block.{Block}
use Rattle.sibt_strings.specs.declared.block.Block.TheVariants as block
use Rattle.sibt_strings.specs.declared.front.Head.{Head}
use Rattle.sibt_strings.specs.declared.front.Head.TheVariants as head
use Rattle.sibt_strings.specs.declared.front.Front.{Front}
use Rattle.sibt_strings.specs.declared.front.Front.TheVariants as front
use Rattle.sibt_strings.specs.declared.entry.Entry.{Entry}
use Rattle.sibt_strings.specs.declared.entry.Entry.TheVariants as entry
use Rattle.sibt_strings.specs.declared.units.Units.{Units}
use Rattle.sibt_strings.specs.declared.units.UnitChars.{UnitChars}

-- the bytes of a text
abbrev pub units_in : Units → List ℕ
units_in units = units.bytes.now

-- the characters that are left
abbrev pub chars_left : UnitChars → List ℕ
chars_left it = characters it.rest.now

abbrev pub whole_texts : Option (List (List ℕ) × List ℕ) → List (List ℕ)
whole_texts None = []
whole_texts (Some t) = t.0

abbrev pub block_seen : Block → spec.Block
block_seen (block.Texts texts) =
    spec.Texts (whole_texts (cut_texts texts.count texts.bytes.now))
block_seen (block.Duplicate id) = spec.Duplicate id
block_seen (block.Skip count) = spec.Skip count
block_seen block.Extension = spec.Extension

abbrev pub front_seen : Front → spec.Front
front_seen front.End = spec.End
front_seen (front.Whole block rest) = spec.Whole (block_seen block) rest.now
front_seen front.CutText = spec.CutText
front_seen front.BadBlock = spec.BadBlock

abbrev pub head_seen : Head → spec.Front
head_seen head.End = spec.End
head_seen (head.Texts count bytes) = spec.texts_block (cut_texts count bytes.now)
head_seen (head.Duplicate id rest) = spec.Whole (spec.Duplicate id) rest.now
head_seen (head.Skip count rest) = spec.Whole (spec.Skip count) rest.now
head_seen (head.Extension rest) = spec.Whole spec.Extension rest.now
head_seen head.BadBlock = spec.BadBlock

-- what stands at the front, or a bad block where that was not found
abbrev pub head_or_bad : Option Head → spec.Front
head_or_bad None = spec.BadBlock
head_or_bad (Some found) = head_seen found

-- the bytes of the texts of a block, or else those behind it, are these
abbrev pub HasBehind : Head → (List ℕ → Type 0) → Type 0
HasBehind head.End P = Unit {0}
HasBehind (head.Texts count bytes) P = P bytes.now
HasBehind (head.Duplicate id rest) P = P rest.now
HasBehind (head.Skip count rest) P = P rest.now
HasBehind (head.Extension rest) P = P rest.now
HasBehind head.BadBlock P = Unit {0}

-- the bytes end with the rest
pub record EndsWith (bytes rest : List ℕ) : Type 0 where
  pub front : List ℕ
  pub parts : bytes ≡ front ++ rest

-- the texts of a block stand in the bytes
abbrev pub HasTextsIn : Block → List ℕ → Type 0
HasTextsIn (block.Texts texts) bytes = EndsWith bytes texts.bytes.now
HasTextsIn (block.Duplicate id) bytes = Unit {0}
HasTextsIn (block.Skip count) bytes = Unit {0}
HasTextsIn block.Extension bytes = Unit {0}

-- the texts of the block at the front stand in the bytes, and so do the bytes behind it
abbrev pub LiesIn : Front → List ℕ → Type 0
LiesIn front.End bytes = Unit {0}
LiesIn (front.Whole block rest) bytes = HasTextsIn block bytes × EndsWith bytes rest.now
LiesIn front.CutText bytes = Unit {0}
LiesIn front.BadBlock bytes = Unit {0}

-- fewer bytes than so many stand behind the block at the front
abbrev pub LeavesLess : Front → ℕ → Type 0
LeavesLess front.End n = Unit {0}
LeavesLess (front.Whole block rest) n = length rest.now < n
LeavesLess front.CutText n = Unit {0}
LeavesLess front.BadBlock n = Unit {0}

-- A whole block stands at the front of the bytes, and the rest, which has fewer of them, behind it.
pub record SplitsInto (bytes : List ℕ) (block : Block) (rest : List ℕ) : Type 0 where
  pub front : spec.front_of bytes ≡ spec.Whole (block_seen block) rest
  pub texts : HasTextsIn block bytes
  pub behind : EndsWith bytes rest
  pub fewer : length rest < length bytes

-- of how many string ids a block says something
abbrev pub count_of : spec.Block → ℕ
count_of (spec.Texts texts) = length texts
count_of (spec.Duplicate id) = 1
count_of (spec.Skip count) = count
count_of spec.Extension = 0

-- What is found of an id among texts: its text, that it has the text of an id before it, or that it has none.
abbrev pub TellsOf : List (Option (List ℕ)) → ℕ → Entry → Type 0
TellsOf texts id (entry.Text units) = text_at texts id ≡ Some (units_in units)
TellsOf texts id (entry.Duplicate other) = (other < id) × (text_at texts id ≡ text_at texts other)
TellsOf texts id entry.Nothing = text_at texts id ≡ None

-- the blocks from the front that this is the first of
abbrev pub blocks_from : spec.Front → (List ℕ → List spec.Block) → List spec.Block
blocks_from spec.End follow = []
blocks_from (spec.Whole block behind) follow = block ∷ follow behind
blocks_from spec.CutText follow = []
blocks_from spec.BadBlock follow = []

-- the blocks at the front of the bytes, at most so many
unfoldable pub blocks_in : ℕ → List ℕ → List spec.Block
blocks_in zero bytes = []
blocks_in (suc n) bytes = blocks_from (spec.front_of bytes) (λ behind. blocks_in n behind)

-- what a language and the bytes of blocks say
abbrev pub spoken_in : List ℕ → List ℕ → Spoken
spoken_in language bytes =
    record { language = language; texts = spec.texts_said (blocks_in (length bytes) bytes) }

-- the bytes are blocks up to an end block, of which there are no more than bytes
abbrev pub HoldsBlocks : List ℕ → Type 0
HoldsBlocks bytes =
    (blocks : List spec.Block) × spec.AreBlocks bytes blocks × (length blocks ≤ length bytes)

-- the fault of the first block that is bad, at its place from the first byte
abbrev pub IsBlockFault : List ℕ → Fault → Type 0
IsBlockFault bytes fault =
    ((fault.cause ≡ StringBlock) × spec.StandsAt bytes spec.BadBlock fault.place)
    ⊎ ((fault.cause ≡ StringText) × spec.StandsAt bytes spec.CutText fault.place)
