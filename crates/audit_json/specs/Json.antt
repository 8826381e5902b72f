-- Texts as strings of JSON (RFC 8259, 7 Strings; that what is unsafe in a line is escaped, too, is an own rule).
use Rattle.std.specs.Prelude.{ℕ, ◌+◌, ◌-◌, ◌/◌, ◌%◌, ◌==◌, ◌||◌, nat_lt, if◌then◌else◌, List, ◌++◌, codes, encode_utf8}
use Rattle.std.specs.List.{flat_map}
use Rattle.hii_bytes.specs.Texts.{hex_of}
use Rattle.audit_text.specs.Texts.{is_unsafe}

-- a unit of UTF-16 as an escape
abbrev pub unit_escape : ℕ → List ℕ
unit_escape unit = codes "\\u" ++ hex_of (unit / 256) ++ hex_of (unit % 256)

-- a character as the escape of its unit of UTF-16, or of its two
abbrev pub escape : ℕ → List ℕ
escape c =
    if nat_lt c 0x10000 then unit_escape c
    else unit_escape (0xD800 + (c - 0x10000) / 0x400) ++ unit_escape (0xDC00 + (c - 0x10000) % 0x400)

-- a quotation mark and a backslash stand behind a backslash
abbrev pub json_char : ℕ → List ℕ
json_char c =
    if c == 34 || c == 92 then codes "\\" ++ encode_utf8 c
    else if is_unsafe c then escape c else encode_utf8 c

-- a text within a string
abbrev pub escaped : List ℕ → List ℕ
escaped text = flat_map json_char text

abbrev pub json_text : List ℕ → List ℕ
json_text text = codes "\"" ++ escaped text ++ codes "\""
