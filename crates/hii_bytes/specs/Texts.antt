-- Small texts of answers (own rule).
use Rattle.std.specs.Prelude.{ℕ, ◌-◌, ◌/◌, ◌%◌, false, List, [], ◌∷◌, ◌++◌, length, replicate, codes, decimal}
use Rattle.std.specs.Fmt.{digit_glyph}
use Rattle.hii_bytes.specs.Cause.{number_of, name_of}
use Rattle.hii_bytes.specs.declared.cause.Cause.{Cause}
use Rattle.hii_bytes.specs.declared.cause.Fault.{Fault}

-- a text after as many spaces as make it this wide
abbrev pub right_aligned : ℕ → List ℕ → List ℕ
right_aligned width text = replicate (width - length text) 32 ++ text

-- a byte in two lower-case hex digits
abbrev pub hex_of : ℕ → List ℕ
hex_of b = digit_glyph false (b / 16) ∷ digit_glyph false (b % 16) ∷ []

-- the lowest 32 bits of a place in eight hex digits
abbrev pub place_text : ℕ → List ℕ
place_text place =
    hex_of (place / 0x1000000 % 256) ++ hex_of (place / 0x10000 % 256)
    ++ hex_of (place / 0x100 % 256) ++ hex_of (place % 256)

-- by which cause something is refused
abbrev pub cause_text : Cause → List ℕ
cause_text cause = codes "REFUSED " ++ decimal (number_of cause) ++ codes " " ++ name_of cause

-- by which cause bytes are refused, and at which place
abbrev pub fault_text : Fault → List ℕ
fault_text fault = cause_text fault.cause ++ codes " at " ++ place_text fault.place
