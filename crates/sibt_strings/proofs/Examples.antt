-- Worked values of the definitions.
use Rattle.std.proofs.Common.{◌≡◌, ℕ, List, [], ◌∷◌, ◌++◌, replicate, Option, Some, None, refl, lit≤}
use Rattle.hii_bytes.specs.Numbers.{number_in}
use Rattle.sibt_strings.specs.code.Blocks.{Texts, Duplicate, Extension, End, Whole, CutText, BadBlock, front_of, texts_said}
use Rattle.browser_rules.specs.Strings.{cut_text, cut_texts, text_at, characters}
use Rattle.sibt_strings.specs.laws.Spelling.{string_ucs2, skip1, duplicate, Speaks}

-- a text, three skipped ids, a text of U+D800, U+FFF1 and B, a duplicate of the first id and one of an id that comes later
blocks : List ℕ
blocks =
    (0x14 ∷ 0x41 ∷ 0 ∷ 0 ∷ 0 ∷ []) ++ (0x22 ∷ 3 ∷ []) ++ (0x14 ∷ 0x00 ∷ 0xD8 ∷ 0xF1 ∷ 0xFF ∷ 0x42 ∷ 0 ∷ 0 ∷ 0 ∷ [])
    ++ (0x20 ∷ 1 ∷ 0 ∷ []) ++ (0x20 ∷ 9 ∷ 0 ∷ []) ++ (0 ∷ [])

-- the texts of the ids from 1 to 7
texts : List (Option (List ℕ))
texts = Some (0x41 ∷ 0 ∷ []) ∷ None ∷ None ∷ None ∷ Some (0x00 ∷ 0xD8 ∷ 0xF1 ∷ 0xFF ∷ 0x42 ∷ 0 ∷ []) ∷ Some (0x41 ∷ 0 ∷ []) ∷ None ∷ []

-- the string package of these blocks, in the language en-US
bytes : List ℕ
bytes = (75 ∷ 0 ∷ 0 ∷ 4 ∷ 46 ∷ 0 ∷ 0 ∷ 0 ∷ 52 ∷ 0 ∷ 0 ∷ 0 ∷ []) ++ replicate 34 0 ++ (0x65 ∷ 0x6E ∷ 0x2D ∷ 0x55 ∷ 0x53 ∷ 0 ∷ []) ++ blocks

says : Speaks (record { place = 0; kind = 4; bytes = bytes }) (record { language = 0x65 ∷ 0x6E ∷ 0x2D ∷ 0x55 ∷ 0x53 ∷ []; texts = texts })
unfolding number_in cut_text cut_texts front_of bytes blocks texts
says = record {
  fixed = record { long = lit≤ tt; low = lit≤ tt; high = lit≤ tt };
  language = refl;
  whole_blocks = string_ucs2 (0x41 ∷ 0 ∷ []) ∷ skip1 3 ∷ string_ucs2 (0x00 ∷ 0xD8 ∷ 0xF1 ∷ 0xFF ∷ 0x42 ∷ 0 ∷ []) ∷ duplicate (1 ∷ 0 ∷ []) ∷ duplicate (9 ∷ 0 ∷ []) ∷ [];
  are = record { fitting = ((refl, tt), (tt, ((refl, (refl, (refl, tt))), (refl, (refl, tt))))); rest = []; whole = refl };
  texts = refl;
}

first_text : text_at texts 1 ≡ Some (0x41 ∷ 0 ∷ [])
unfolding texts
first_text = refl

no_text : (text_at texts 0 ≡ None) × (text_at texts 2 ≡ None) × (text_at texts 7 ≡ None) × (text_at texts 8 ≡ None)
unfolding texts
no_text = (refl, refl, refl, refl)

-- U+D800 shows as U+FFFD, U+FFF1 as nothing
fifth_shown : characters (0x00 ∷ 0xD8 ∷ 0xF1 ∷ 0xFF ∷ 0x42 ∷ 0 ∷ []) ≡ 0xFFFD ∷ 0x42 ∷ []
unfolding characters
fifth_shown = refl

-- a tab, a delete and U+0080 show as spaces, U+E000 and U+FFFF as they are
controls_shown : characters (9 ∷ 0 ∷ 0x7F ∷ 0 ∷ 0x80 ∷ 0 ∷ 0x00 ∷ 0xE0 ∷ 0xFF ∷ 0xFF ∷ []) ≡ 0x20 ∷ 0x20 ∷ 0x20 ∷ 0xE000 ∷ 0xFFFF ∷ []
unfolding characters
controls_shown = refl

-- a duplicate of a duplicate, one of itself, one of an id without text
chains : texts_said (Texts ((1 ∷ 1 ∷ []) ∷ []) ∷ Duplicate 1 ∷ Duplicate 2 ∷ Duplicate 4 ∷ Duplicate 4 ∷ Extension ∷ []) ≡ Some (1 ∷ 1 ∷ []) ∷ Some (1 ∷ 1 ∷ []) ∷ Some (1 ∷ 1 ∷ []) ∷ None ∷ None ∷ []
chains = refl

-- what stands at the front: no text, half a unit, a font without a text, a cut count, two texts, an extension
fronts : (front_of (0x14 ∷ []) ≡ CutText) × (front_of (0x14 ∷ 1 ∷ 0 ∷ 0 ∷ []) ≡ CutText) × (front_of (0x15 ∷ []) ≡ BadBlock) × (front_of (0x16 ∷ 2 ∷ []) ≡ BadBlock)
    × (front_of (0x16 ∷ 2 ∷ 0 ∷ 1 ∷ 0 ∷ 0 ∷ 0 ∷ 0 ∷ 0 ∷ 7 ∷ []) ≡ Whole (Texts ((1 ∷ 0 ∷ []) ∷ [] ∷ [])) (7 ∷ []))
    × (front_of (0x30 ∷ 0 ∷ 4 ∷ 9 ∷ 7 ∷ []) ≡ Whole Extension (7 ∷ [])) × (front_of (0x30 ∷ 0 ∷ 2 ∷ []) ≡ BadBlock)
    × (front_of (0x10 ∷ []) ≡ BadBlock) × (front_of [] ≡ BadBlock) × (front_of (0 ∷ 7 ∷ []) ≡ End)
unfolding front_of cut_texts cut_text number_in
fronts = (refl, refl, refl, refl, refl, refl, refl, refl, refl, refl)
