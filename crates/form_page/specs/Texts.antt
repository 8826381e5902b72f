-- Texts of a page as characters, and their columns (own rule; a character's width is that of the crate unicode_width, which
-- follows Unicode's East Asian Width).
use Rattle.std.specs.Prelude.{ℕ, false, ◌+◌, ◌-◌, nat_le, if◌then◌else◌, Option, Some, None, List, [], ◌∷◌, ◌++◌, replicate, encode_utf8}
use Rattle.std.specs.List.{flat_map}
use Rattle.unicode_width.specs.Width.{char_width}

-- the bytes of some characters
abbrev pub utf8 : List ℕ → List ℕ
utf8 text = flat_map encode_utf8 text

-- the columns of a character; one without a width takes none
abbrev pub columns_or : Option ℕ → ℕ
columns_or None = 0
columns_or (Some width) = width

abbrev pub columns : ℕ → ℕ
columns c = columns_or (char_width false c)

abbrev pub width : List ℕ → ℕ
width [] = 0
width (c ∷ text) = columns c + width text

-- the longest front of whole characters that is at most this wide
abbrev pub cut_to : ℕ → List ℕ → List ℕ
cut_to room [] = []
cut_to room (c ∷ text) = if nat_le (columns c) room then c ∷ cut_to (room - columns c) text else []

-- a text in so many columns: cut, and filled with spaces
abbrev pub in_columns : ℕ → List ℕ → List ℕ
in_columns count text = utf8 (cut_to count text) ++ replicate (count - width (cut_to count text)) 32
