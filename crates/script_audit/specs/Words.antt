-- The words of a line, and those that its command wants (own rule).
use Rattle.std.specs.Prelude.{ℕ, ◌+◌, ◌-◌, ◌^◌, ◌==◌, ◌&&◌, ◌||◌, nat_lt, Bool, false, true, if◌then◌else◌, Option, Some, None, List, [], ◌∷◌, bytes_eq, codes, drop, filter, length, map, slice_index, take}
use Rattle.std.specs.Char.{is_digit, to_ascii_lowercase}
use Rattle.std.specs.List.{list_all, list_any}
use Rattle.browser_rules.specs.Script.{cut_word}
use Rattle.hii_bytes.specs.Digits.{number_below}

-- ---- words: what stands between spaces

abbrev pub is_space : ℕ → Bool
is_space byte = byte == 32

abbrev pub first_word : List ℕ → List ℕ
first_word text = (cut_word text).0

-- the word behind the first one, or none
abbrev pub word_behind : Option (List ℕ) → List ℕ
word_behind None = []
word_behind (Some rest) = first_word rest

abbrev pub second_word : List ℕ → List ℕ
second_word text = word_behind (cut_word text).1

-- what stands behind the last space, or else this
abbrev pub behind_spaces : List ℕ → List ℕ → List ℕ
behind_spaces word [] = word
behind_spaces word (byte ∷ bytes) = if is_space byte then behind_spaces bytes bytes else behind_spaces word bytes

abbrev pub last_word : List ℕ → List ℕ
last_word text = behind_spaces text text

abbrev pub space_count : List ℕ → ℕ
space_count text = length (filter is_space text)

abbrev pub word_count : List ℕ → ℕ
word_count text = space_count text + 1

-- ---- spaces that are not wanted

abbrev pub is_tab : ℕ → Bool
is_tab byte = byte == 9

abbrev pub begins_with_space : List ℕ → Bool
begins_with_space [] = false
begins_with_space (byte ∷ bytes) = is_space byte

abbrev pub ends_with_space : List ℕ → Bool
ends_with_space text = is_space (slice_index text (length text - 1))

abbrev pub has_two_spaces : List ℕ → Bool
has_two_spaces [] = false
has_two_spaces (byte ∷ bytes) = (is_space byte && begins_with_space bytes) || has_two_spaces bytes

-- ---- commands: how many words each has

-- at least and at most, its own word counted, and whether the second is a number
pub record Words : Type 0 where
  pub least : ℕ
  pub most : ℕ
  pub takes_number : Bool

abbrev pub words_of : ℕ → ℕ → Bool → Option Words
words_of least most takes_number = Some record { least = least; most = most; takes_number = takes_number }

abbrev pub is_numbered : List ℕ → Bool
is_numbered word =
    bytes_eq word (codes "go") || bytes_eq word (codes "press") || bytes_eq word (codes "defaults")
    || bytes_eq word (codes "why")

abbrev pub is_worded : List ℕ → Bool
is_worded word =
    bytes_eq word (codes "lang") || bytes_eq word (codes "extract") || bytes_eq word (codes "route")

abbrev pub is_plain : List ℕ → Bool
is_plain word =
    bytes_eq word (codes "page") || bytes_eq word (codes "back") || bytes_eq word (codes "submit")
    || bytes_eq word (codes "discard")

-- A text has any number of words; a line has at most 4,096 bytes.
abbrev pub wanted_words : List ℕ → Option Words
wanted_words word =
    if bytes_eq word (codes "set") then words_of 3 3 true
    else if bytes_eq word (codes "order") then words_of 2 3 true
    else if bytes_eq word (codes "text") then words_of 2 4097 true
    else if is_numbered word then words_of 2 2 true
    else if is_worded word then words_of 2 2 false
    else if is_plain word then words_of 1 1 false
    else None

-- the same where letters of ASCII count in either case
abbrev pub is_in_letters : List ℕ → List ℕ → Bool
is_in_letters word command = bytes_eq (map to_ascii_lowercase word) command

abbrev pub is_in_capitals : List ℕ → Bool
is_in_capitals word =
    list_any (is_in_letters word)
    (codes "set" ∷ codes "order" ∷ codes "text" ∷ codes "go" ∷ codes "press" ∷ codes "defaults" ∷ codes "why"
    ∷ codes "lang" ∷ codes "extract" ∷ codes "route" ∷ codes "page" ∷ codes "back" ∷ codes "submit"
    ∷ codes "discard" ∷ [])

-- ---- numbers

abbrev pub is_decimal : List ℕ → Bool
is_decimal word = nat_lt 0 (length word) && list_all (λ byte. is_digit byte 10) word

-- the number that hex digits behind `0x` write
abbrev pub hexadecimal_in : List ℕ → Option ℕ
hexadecimal_in word = if bytes_eq (take 2 word) (codes "0x") then number_below (2 ^ 64) 16 16 (drop 2 word) else None

-- A number of more digits than 2^64 has is above all.
abbrev pub is_above : Option ℕ → Bool
is_above None = true
is_above (Some n) = nat_lt 65535 n

abbrev pub is_too_great : List ℕ → Bool
is_too_great word = is_above (number_below (2 ^ 64) 10 20 word)
