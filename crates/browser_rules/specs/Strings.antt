-- String packages: their languages and texts, and what is shown of a string id (UEFI 2.8, 33.3.6 String Package and
-- 33.3.6.2 String Information; the choice of a package and what is shown of a unit are own rules).
use Rattle.std.specs.Prelude.{ℕ, zero, suc, ◌+◌, ◌-◌, ◌*◌, Bool, ◌==◌, ◌&&◌, ◌||◌, nat_lt, nat_le, if◌then◌else◌}
use Rattle.std.specs.Prelude.{Option, Some, None, option_map, option_and_then, unwrap_or, Result, Ok, Err, position}
use Rattle.std.specs.Prelude.{decimal, List, [], ◌∷◌, ◌++◌, length, take, drop, map, replicate, slice_index, slice_get}
use Rattle.std.specs.List.{before_first}
use Rattle.std.specs.Result.{result_unwrap_or}
use Rattle.std.specs.Option.{option_or}
use Rattle.std.specs.Str.{str_eq_ignore_ascii_case}
use Rattle.browser_rules.specs.Words.{Cause, StringBlock, StringText, number_in}
use Rattle.browser_rules.specs.Packages.{Package, packages_with, STRINGS}

-- ---- blocks

-- the bytes of a text up to its zero unit, and the bytes behind that unit; a unit has two bytes
unfoldable pub cut_text : List ℕ → Option (List ℕ × List ℕ)
cut_text [] = None
cut_text (low ∷ []) = None
cut_text (low ∷ high ∷ rest) =
    if low == 0 && high == 0 then Some ([], rest)
    else option_map (λ cut. (low ∷ high ∷ cut.0, cut.1)) (cut_text rest)

-- so many texts, one after the other, and the bytes behind them
unfoldable pub cut_texts : ℕ → List ℕ → Option (List (List ℕ) × List ℕ)
cut_texts zero bytes = Some ([], bytes)
cut_texts (suc n) bytes =
    option_and_then (λ cut. option_map (λ others. (cut.0 ∷ others.0, others.1)) (cut_texts n cut.1)) (cut_text bytes)

-- the texts of the string ids from 1 on, where they have one; id 0 has none
abbrev pub Texts : Type 0
Texts = List (Option (List ℕ))

abbrev pub text_at : Texts → ℕ → Option (List ℕ)
text_at texts zero = None
text_at texts (suc n) = unwrap_or (slice_get texts n) None

-- what stands at the front of bytes: the end block; a block, with the texts that it adds and the bytes behind it; one
-- with a text that has no zero unit; no whole block
pub data Front : Type 0 where
  end_block : Front
  block : (added : Texts) (rest : List ℕ) → Front
  cut_block no_block : Front

abbrev pub texts_block : Option (List (List ℕ) × List ℕ) → Front
texts_block cut = unwrap_or (option_map (λ c. block (map (λ text. Some text) c.0) c.1) cut) cut_block

-- an extension, whose length counts from the block's first byte (own rule)
abbrev pub extension : ℕ → ℕ → List ℕ → Front
extension header size bytes =
    if nat_lt size header || nat_lt (length bytes) size then no_block else block [] (drop size bytes)

-- The kinds of blocks: the number in the first byte, the bytes of the header, what it adds to the texts before it. A
-- duplicate has the text of an id before its own, if that has one, else none (own rule).
unfoldable pub front_of : Texts → List ℕ → Front
front_of texts bytes =
    if begins 0x00 1 then end_block
    else if begins 0x14 1 then texts_block (cut_texts 1 (drop 1 bytes))  -- STRING_UCS2
    else if begins 0x15 2 then texts_block (cut_texts 1 (drop 2 bytes))  -- STRING_UCS2_FONT
    else if begins 0x16 3 then texts_block (cut_texts (number_in bytes 1 2) (drop 3 bytes))  -- STRINGS_UCS2
    else if begins 0x17 4 then texts_block (cut_texts (number_in bytes 2 2) (drop 4 bytes))  -- STRINGS_UCS2_FONT
    else if begins 0x20 3 then block (text_at texts (number_in bytes 1 2) ∷ []) (drop 3 bytes)  -- DUPLICATE
    else if begins 0x21 3 then block (replicate (number_in bytes 1 2) None) (drop 3 bytes)  -- SKIP2
    else if begins 0x22 2 then block (replicate (slice_index bytes 1) None) (drop 2 bytes)  -- SKIP1
    else if begins 0x30 3 then extension 3 (slice_index bytes 2) bytes  -- EXT1
    else if begins 0x31 4 then extension 4 (number_in bytes 2 2) bytes  -- EXT2
    else if begins 0x32 6 then extension 6 (number_in bytes 2 4) bytes  -- EXT4
    else no_block
  where
    begins : ℕ → ℕ → Bool
    begins number header = nat_le header (length bytes) && slice_index bytes 0 == number

-- the texts of n blocks at most, up to the end block; or the cause and the place for which there are none
abbrev pub with_front : Texts → ℕ → Front → (Texts → List ℕ → Result Texts (Cause × ℕ)) → Result Texts (Cause × ℕ)
with_front texts at end_block next = Ok texts
with_front texts at (block added rest) next = next (texts ++ added) rest
with_front texts at cut_block next = Err (StringText, at)
with_front texts at no_block next = Err (StringBlock, at)

unfoldable pub texts_from : ℕ → Texts → ℕ → List ℕ → Result Texts (Cause × ℕ)
texts_from zero texts at bytes = Err (StringBlock, at)
texts_from (suc n) texts at bytes =
    with_front texts at (front_of texts bytes) λ more rest. texts_from n more (at + (length bytes - length rest)) rest

-- ---- a string package: a fixed part of 46 bytes, the language, the blocks

-- where the blocks begin, in bytes from the package's first
abbrev pub info_offset : List ℕ → ℕ
info_offset bytes = number_in bytes 8 4

-- bytes up to the first NUL, of which none is above 7E
abbrev pub language_in : List ℕ → Option (List ℕ)
language_in [] = None
language_in (byte ∷ bytes) =
    if byte == 0 then Some []
    else if nat_lt 0x7e byte then None else option_map (λ more. byte ∷ more) (language_in bytes)

abbrev pub language_of : Package → Option (List ℕ)
language_of p = language_in (take (info_offset p.bytes - 46) (drop 46 p.bytes))

abbrev pub texts_of : Package → Result Texts (Cause × ℕ)
texts_of p = texts_from (length p.bytes) [] (p.place + info_offset p.bytes) (drop (info_offset p.bytes) p.bytes)

-- ---- what the string packages of a list say, and which is chosen

pub record Spoken : Type 0 where
  pub language : List ℕ
  pub texts : Texts

abbrev pub spoken_by : Package → Spoken
spoken_by p = record { language = unwrap_or (language_of p) []; texts = result_unwrap_or (texts_of p) [] }

abbrev pub spoken_in : List ℕ → List Spoken
spoken_in list = map spoken_by (packages_with STRINGS list)

-- The number, from 0 on, of the package for a language: the first that has it, ignoring ASCII case; else the first that
-- has its part before the first hyphen; else the first.
abbrev pub primary : List ℕ → List ℕ
primary language = before_first (λ byte. byte == 45) language

abbrev pub chosen : List Spoken → List ℕ → Option ℕ
chosen spoken language =
    option_or (position (λ s. str_eq_ignore_ascii_case s.language language) spoken)
    (option_or (position (λ s. str_eq_ignore_ascii_case (primary s.language) (primary language)) spoken)
    (if length spoken == 0 then None else Some 0))

-- the text of a string id: that of the chosen package, else that of the first
abbrev pub text_in : List Spoken → ℕ → Option ℕ → Option (List ℕ)
text_in spoken id number = option_and_then (λ s. text_at s.texts id) (option_and_then (slice_get spoken) number)

abbrev pub text_of : List Spoken → Option ℕ → ℕ → Option (List ℕ)
text_of spoken choice id = option_or (text_in spoken id choice) (text_in spoken id (Some 0))

-- ---- what is shown

-- the characters for a unit: a space for a control, U+FFFD for a surrogate, none for FFF0 to FFF2, else its own
abbrev pub shown_unit : ℕ → List ℕ
shown_unit unit =
    if nat_lt unit 0x20 || nat_le 0x7f unit && nat_lt unit 0xa0 then 0x20 ∷ []
    else if nat_le 0xd800 unit && nat_lt unit 0xe000 then 0xfffd ∷ []
    else if nat_le 0xfff0 unit && nat_lt unit 0xfff3 then []
    else unit ∷ []

unfoldable pub characters : List ℕ → List ℕ
characters (low ∷ high ∷ rest) = shown_unit (low + 256 * high) ++ characters rest
characters _ = []

-- the characters for a string id: none for 0, a number sign and the id where it has no text
abbrev pub shown : List Spoken → Option ℕ → ℕ → List ℕ
shown spoken choice id =
    if id == 0 then [] else unwrap_or (option_map characters (text_of spoken choice id)) (35 ∷ decimal id)
