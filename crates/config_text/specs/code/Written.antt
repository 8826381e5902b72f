-- The pieces of a written response.
use Rattle.std.specs.Prelude.{ℕ, ◌+◌, ◌/◌, ◌%◌, zero, suc, List, [], ◌∷◌, ◌++◌, codes, reverse, slice_range}
use Rattle.std.specs.List.{flat_map}
use Rattle.hii_bytes.specs.Texts.{hex_of}
use Rattle.browser_rules.specs.Configuration.{Header, Block}

-- a number below 65536 in four lower-case hex digits
abbrev pub four_digits : ℕ → List ℕ
four_digits n = hex_of (n / 256) ++ hex_of (n % 256)

-- a header, in lower-case hex digits
abbrev pub header_text : Header → List ℕ
header_text named =
    codes "GUID=" ++ flat_map hex_of named.guid ++ codes "&NAME=" ++ flat_map four_digits named.name
    ++ codes "&PATH=" ++ flat_map hex_of named.path

-- bytes of a store as a value: two hex digits for each, the last byte first
abbrev pub value_digits : List ℕ → List ℕ
value_digits bytes = flat_map hex_of (reverse bytes)

-- the bytes of a block in a store
abbrev pub bytes_of_area : List ℕ → Block → List ℕ
bytes_of_area store area = slice_range store area.offset (area.offset + area.width)

-- a block with its value in a store
abbrev pub block_text : List ℕ → Block → List ℕ
block_text store area =
    codes "&OFFSET=" ++ four_digits area.offset ++ codes "&WIDTH=" ++ four_digits area.width ++ codes "&VALUE="
    ++ value_digits (bytes_of_area store area)

-- a store of so many bytes as one block, and none where it has no bytes
abbrev pub whole_store : ℕ → List Block
whole_store zero = []
whole_store (suc n) = record { offset = 0; width = suc n; digits = [] } ∷ []
