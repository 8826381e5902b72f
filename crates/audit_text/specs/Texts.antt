-- Texts that lines of an audit share (own rule, but for the text of a GUID).
use Rattle.std.specs.Prelude.{ℕ, ◌-◌, ◌/◌, ◌%◌, ◌==◌, ◌&&◌, ◌||◌, false, nat_le, if◌then◌else◌, Bool, List, [], ◌∷◌, ◌++◌, length, replicate, map, slice_index, slice_range, codes, encode_utf8}
use Rattle.std.specs.Fmt.{digit_glyph}
use Rattle.std.specs.Int.Digits as numbers
use Rattle.std.specs.List.{flat_map, list_any}

-- a byte in two hex digits, which are upper case or not
abbrev pub byte_digits : Bool → ℕ → List ℕ
byte_digits upper b = digit_glyph upper (b / 16) ∷ digit_glyph upper (b % 16) ∷ []

abbrev pub digits_of : Bool → List ℕ → List ℕ
digits_of upper bytes = flat_map (byte_digits upper) bytes

-- The sixteen bytes of a GUID in registry format (UEFI 2.8, Appendix A GUID and Time Formats): the numbers TimeLow, TimeMid and
-- TimeHighAndVersion, which lie with the lowest byte first, then ClockSeqHighAndReserved with ClockSeqLow, and Node.
abbrev pub guid_text : Bool → List ℕ → List ℕ
guid_text upper guid =
    digits_of upper
    (slice_index guid 3 ∷ slice_index guid 2 ∷ slice_index guid 1 ∷ slice_index guid 0 ∷ [])
    ++ codes "-" ++ digits_of upper (slice_index guid 5 ∷ slice_index guid 4 ∷ [])
    ++ codes "-" ++ digits_of upper (slice_index guid 7 ∷ slice_index guid 6 ∷ [])
    ++ codes "-" ++ digits_of upper (slice_range guid 8 10)
    ++ codes "-" ++ digits_of upper (slice_range guid 10 16)

-- a text and as many spaces as make it this wide
abbrev pub left_aligned : ℕ → List ℕ → List ℕ
left_aligned width text = text ++ replicate (width - length text) 32

-- a number in hex digits, without zeros before it
abbrev pub hex_text : ℕ → List ℕ
hex_text n = if n == 0 then codes "0" else map (digit_glyph false) (numbers.digits_of 16 n)

-- a byte that is no printable character of ASCII shows as a question mark
abbrev pub shown_byte : ℕ → ℕ
shown_byte byte = if nat_le 0x20 byte && nat_le byte 0x7E then byte else 63

-- the bytes of a name, each as it is shown; an empty name shows as a hyphen
abbrev pub name_by : (ℕ → ℕ) → List ℕ → List ℕ
name_by show [] = codes "-"
name_by show (byte ∷ name) = map show (byte ∷ name)

-- the name of a store
abbrev pub ascii_name : List ℕ → List ℕ
ascii_name name = name_by shown_byte name

-- in the name of a language a space and a comma show as question marks, too, since they stand between names
abbrev pub language_byte : ℕ → ℕ
language_byte byte = if byte == 0x20 || byte == 0x2C then 63 else shown_byte byte

abbrev pub language_name : List ℕ → List ℕ
language_name language = name_by language_byte language

-- The characters that end a line, begin an escape, turn the direction of what follows or do not show at all: of each range the first
-- and the last.
abbrev pub unsafe_ranges : List (ℕ × ℕ)
unsafe_ranges =
    (0x00, 0x1F) ∷ (0x7F, 0x9F) ∷ (0xAD, 0xAD) ∷ (0x061C, 0x061C) ∷ (0x180E, 0x180E)
    ∷ (0x200B, 0x200F) ∷ (0x2028, 0x202E) ∷ (0x2060, 0x206F) ∷ (0xD800, 0xDFFF)
    ∷ (0xFEFF, 0xFEFF) ∷ (0xFFF9, 0xFFFB) ∷ (0xE0000, 0xE007F) ∷ []

abbrev pub is_between : ℕ → ℕ × ℕ → Bool
is_between c range = nat_le range.0 c && nat_le c range.1

abbrev pub is_unsafe : ℕ → Bool
is_unsafe c = list_any (is_between c) unsafe_ranges

-- a character in UTF-8, and one of these as its number in hex digits
abbrev pub safe_char : ℕ → List ℕ
safe_char c = if is_unsafe c then codes "\\u{" ++ hex_text c ++ codes "}" else encode_utf8 c

-- a text as it stands in a line
abbrev pub safe_text : List ℕ → List ℕ
safe_text text = flat_map safe_char text

-- words with a text between each two, or a hyphen where there are none
abbrev pub joined : List ℕ → List (List ℕ) → List ℕ
joined between [] = codes "-"
joined between (word ∷ words) = word ++ flat_map (λ next. between ++ next) words
