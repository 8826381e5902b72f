-- What is written is read back.
use Rattle.std.proofs.Common.{◌≡◌, ◌==◌, ℕ, zero, suc, ◌+◌, ◌-◌, ◌*◌, ◌/◌, ◌%◌, ◌^◌, ◌<◌, ◌≤◌, true, false, List, [], ◌∷◌, ◌++◌, length, map, take, drop, get_or, reverse, codes, refl, sym, ap, subst, ◌∙◌, arith, append_assoc, append-nil, length-append, length-drop, inl, inr}
use Rattle.std.specs.Char.{digit_value}
use Rattle.std.specs.Fmt.{digit_glyph}
use Rattle.std.specs.List.{AllZip, flat_map, join_with_byte, list_all}
use Rattle.std.specs.Str.Parse.{AllDigits, digits_value}
use Rattle.std.proofs.lemmas.Bool.{cases_lt, lt-ltb, le-ltb}
use Rattle.std.proofs.lemmas.Bool.Decides.{nat_tests}
use Rattle.std.proofs.lemmas.Grind.{flat_map-append}
use Rattle.std.proofs.lemmas.List.{length-take, reverse-append, take-append-drop}
use Rattle.std.proofs.lemmas.Int.Digits.{digits_value-lt, digits_value_push}
use Rattle.byteorder.specs.Endian.{little_from, little_number}
use Rattle.byteorder.specs.Numbers.{little_from-cons}
use Rattle.hii_bytes.specs.Numbers.{number_in}
use Rattle.hii_bytes.specs.Digits.{IsNumber}
use Rattle.hii_bytes.specs.Texts.{hex_of}
use Rattle.config_text.specs.laws.Numbers.{AreGroups}
use Rattle.config_text.specs.code.PartReading.{fits_width}
use Rattle.browser_rules.specs.Configuration.{Header, Block, blocks_asked}
use Rattle.config_text.specs.laws.Grammar.{IsHeader, IsBlock, IsConfiguration, all_parts}
use Rattle.hex.specs.Hex.{IsBytes}
use Rattle.config_text.specs.code.Written.{four_digits, header_text, value_digits, bytes_of_area, block_text, whole_store}
use Rattle.config_text.specs.Written.{response_to, AreInside}
use Rattle.config_text.proofs.WriteLemmas.{asked_whole}
use Rattle.config_text.specs.laws.Texts.{area_with_value, areas_with_values}
use Rattle.config_text.specs.declared.kind.TextKind.TheVariants.{Ask, Tell}

-- ---- digits

glyph_value : (d : ℕ) → d < 16 → digit_value (digit_glyph false d) ≡ d
glyph_value d h = elim (cases_lt d 10) [
  | inl less ↦ rw (lt-ltb d 10 less) (grind (arith, nat_tests))
  | inr more ↦ rw (le-ltb d 10 more) (grind (arith, nat_tests))
]

glyph_small : (d : ℕ) → d < 16 → digit_value (digit_glyph false d) < 16
glyph_small d h = omega (arith, h, glyph_value d h)

hex_digits : (b : ℕ) → b < 256 → AllDigits 16 (hex_of b)
hex_digits b h = (glyph_small (b / 16) (omega (arith, h)), (glyph_small (b % 16) (omega arith), tt))

-- two digits behind others
hex_behind : (digits : List ℕ) (b : ℕ) → b < 256 → digits_value 16 (digits ++ hex_of b) ≡ 256 * digits_value 16 digits + b
hex_behind digits b h =
    let high = digit_glyph false (b / 16) in
    let low = digit_glyph false (b % 16) in
    let one : digits_value 16 (digits ++ high ∷ []) ≡ digits_value 16 digits * 16 + digit_value high = digits_value_push 16 digits high in
    let two : digits_value 16 ((digits ++ high ∷ []) ++ low ∷ []) ≡ digits_value 16 (digits ++ high ∷ []) * 16 + digit_value low = digits_value_push 16 (digits ++ high ∷ []) low in
    let same : digits_value 16 (digits ++ hex_of b) ≡ digits_value 16 ((digits ++ high ∷ []) ++ low ∷ []) = ap (digits_value 16) (sym (append_assoc digits (high ∷ []) (low ∷ []))) in
    omega (arith, h, one, two, same, glyph_value (b / 16) (omega (arith, h)), glyph_value (b % 16) (omega arith))

hex_value : (b : ℕ) → b < 256 → digits_value 16 (hex_of b) ≡ b
hex_value b h = let none : digits_value 16 [] ≡ 0 = refl in omega (arith, hex_behind [] b h, none)

word_value : (n : ℕ) → n < 65536 → digits_value 16 (four_digits n) ≡ n
word_value n h =
    let high : n / 256 < 256 = omega (arith, h) in
    let low : n % 256 < 256 = omega arith in
    omega (arith, h, hex_behind (hex_of (n / 256)) (n % 256) low, hex_value (n / 256) high)

word_digits : (n : ℕ) → n < 65536 → AllDigits 16 (four_digits n)
word_digits n h =
    let high = hex_digits (n / 256) (omega (arith, h)) in
    let low = hex_digits (n % 256) (omega arith) in
    (high.0, (high.1.0, low))

word_number : (n : ℕ) → n < 65536 → IsNumber 16 8 65536 (four_digits n) n
word_number n h = record { digits = (omega arith, word_digits n h); few = omega arith; value = word_value n h; small = h }

-- ---- numbers below a limit

abbrev Below : ℕ → List ℕ → Type 0
Below limit [] = Unit {0}
Below limit (n ∷ numbers) = (n < limit) × Below limit numbers

below_parts : (limit : ℕ) (xs ys : List ℕ) → Below limit (xs ++ ys) → Below limit xs × Below limit ys
below_parts limit [] ys h = (tt, h)
below_parts limit (x ∷ xs) ys h = let p = below_parts limit xs ys h.1 in ((h.0, p.0), p.1)

below_each : (limit : ℕ) (xs : List ℕ) → ((k : ℕ) → get_or xs k 0 < limit) → Below limit xs
below_each limit [] h = tt
below_each limit (x ∷ xs) h = (h 0, below_each limit xs (λ k. h (suc k)))

below_range : (limit start count : ℕ) (xs : List ℕ) → Below limit xs → Below limit (take count (drop start xs))
below_range limit start count xs h =
    let back = (below_parts limit (take start xs) (drop start xs) (subst (Below limit) (sym (take-append-drop start xs)) h)).1 in
    (below_parts limit (take count (drop start xs)) (drop count (drop start xs)) (subst (Below limit) (sym (take-append-drop count (drop start xs))) back)).0

groups_below : (size limit : ℕ) (numbers text : List ℕ) → 16 ^ size ≤ limit → AreGroups size text numbers → Below limit numbers
groups_below size limit [] text e h = tt
groups_below size limit (n ∷ numbers) text e (group, rest, whole, one, others) =
    let less : digits_value 16 group < 16 ^ length group = digits_value-lt 16 group one.digits in
    let power : 16 ^ length group ≡ 16 ^ size = ap (λ k. 16 ^ k) one.sized in
    (omega (arith, less, power, one.value, e), groups_below size limit numbers rest e others)

-- ---- the header

pairs_written : (bytes : List ℕ) → Below 256 bytes → AreGroups 2 (flat_map hex_of bytes) bytes
pairs_written [] h = refl
pairs_written (b ∷ bytes) h =
    (hex_of b, flat_map hex_of bytes, refl, record { digits = hex_digits b h.0; sized = refl; value = hex_value b h.0 }, pairs_written bytes h.1)

words_written : (numbers : List ℕ) → Below 65536 numbers → AreGroups 4 (flat_map four_digits numbers) numbers
words_written [] h = refl
words_written (n ∷ numbers) h =
    (four_digits n, flat_map four_digits numbers, refl, record { digits = word_digits n h.0; sized = refl; value = word_value n h.0 }, words_written numbers h.1)

-- the parts of a written header, before others
abbrev written_header : Header → List (List ℕ) → List (List ℕ)
written_header named rest =
    (codes "GUID=" ++ flat_map hex_of named.guid) ∷ (codes "NAME=" ++ flat_map four_digits named.name) ∷ (codes "PATH=" ++ flat_map hex_of named.path) ∷ rest

header_again : (parts : List (List ℕ)) (named : Header) → IsHeader parts named → IsHeader (written_header named []) named
header_again parts named h = record {
  guid_digits = flat_map hex_of named.guid;
  name_digits = flat_map four_digits named.name;
  path_digits = flat_map hex_of named.path;
  whole = refl;
  guid = pairs_written named.guid (groups_below 2 256 named.guid h.guid_digits (omega arith) h.guid);
  sixteen = h.sixteen;
  name = words_written named.name (groups_below 4 65536 named.name h.name_digits (omega arith) h.name);
  path = pairs_written named.path (groups_below 2 256 named.path h.path_digits (omega arith) h.path);
}

-- ---- values

value_first : (b : ℕ) (bytes : List ℕ) → value_digits (b ∷ bytes) ≡ value_digits bytes ++ hex_of b
value_first b bytes =
    ap (flat_map hex_of) (reverse-append (b ∷ []) bytes) ∙ flat_map-append hex_of (reverse bytes) (b ∷ []) ∙ ap (λ l. value_digits bytes ++ l) (append-nil (hex_of b))

length_value : (bytes : List ℕ) → length (value_digits bytes) ≡ 2 * length bytes
length_value [] = refl
length_value (b ∷ bytes) = ap length (value_first b bytes) ∙ omega (arith, length-append (value_digits bytes) (hex_of b), length_value bytes)

digits_append : (xs ys : List ℕ) → AllDigits 16 xs → AllDigits 16 ys → AllDigits 16 (xs ++ ys)
digits_append [] ys h k = k
digits_append (x ∷ xs) ys h k = (h.0, digits_append xs ys h.1 k)

all_value_digits : (bytes : List ℕ) → Below 256 bytes → AllDigits 16 (value_digits bytes)
all_value_digits [] h = tt
all_value_digits (b ∷ bytes) h = subst (AllDigits 16) (sym (value_first b bytes)) (digits_append (value_digits bytes) (hex_of b) (all_value_digits bytes h.1) (hex_digits b h.0))

number_of : (bytes : List ℕ) → Below 256 bytes → digits_value 16 (value_digits bytes) ≡ little_number (length bytes) bytes
number_of [] h = refl
number_of (b ∷ bytes) h =
    let text : digits_value 16 (value_digits (b ∷ bytes)) ≡ digits_value 16 (value_digits bytes ++ hex_of b) = ap (digits_value 16) (value_first b bytes) in
    let others : little_from 1 (length bytes) (b ∷ bytes) ≡ little_from 0 (length bytes) bytes = little_from-cons 0 (length bytes) b bytes in
    omega (arith, text, hex_behind (value_digits bytes) b h.0, others, number_of bytes h.1)

pub value_number : (bytes : List ℕ) → IsBytes bytes → digits_value 16 (value_digits bytes) ≡ number_in bytes 0 (length bytes)
unfolding number_in
value_number bytes h = number_of bytes (below_each 256 bytes h)

-- ---- elements

record IsSound (size : ℕ) (area : Block) : Type 0 where
  offset : area.offset < 65536
  width : area.width < 65536
  some : 1 ≤ area.width
  inside : area.offset + area.width ≤ size

abbrev AreSound : ℕ → List Block → Type 0
AreSound size [] = Unit {0}
AreSound size (area ∷ areas) = IsSound size area × AreSound size areas

abbrev written_element : List ℕ → Block → List (List ℕ)
written_element store area = (codes "OFFSET=" ++ four_digits area.offset) ∷ (codes "WIDTH=" ++ four_digits area.width) ∷ (codes "VALUE=" ++ value_digits (bytes_of_area store area)) ∷ []

element_again : (store : List ℕ) (area : Block) → Below 256 store → IsSound (length store) area → IsBlock Tell (written_element store area) (area_with_value store area)
element_again store area bytes h =
    let start = area.offset in
    let count = area.offset + area.width - area.offset in
    let long : length (bytes_of_area store area) ≡ area.width = omega (arith, length-take count (drop start store), length-drop start store, h.inside) in
    let digits = value_digits (bytes_of_area store area) in
    let twice : length digits ≡ 2 * area.width = length_value (bytes_of_area store area) ∙ ap (λ k. 2 * k) long in
    let some : 0 < length digits = omega (arith, twice, h.some) in
    let none : length digits - 2 * area.width ≡ 0 = omega (arith, twice) in
    let all : AllDigits 16 digits = all_value_digits (bytes_of_area store area) (below_range 256 start count store bytes) in
    let fit : fits_width area.width digits ≡ true = ap (λ k. list_all (λ digit. digit == 48) (take k digits)) none in
    (four_digits area.offset, four_digits area.width, refl, word_number area.offset h.offset, (word_number area.width h.width, h.some), ((some, all), fit))

elements_again : (store : List ℕ) (areas : List Block) → Below 256 store → AreSound (length store) areas
    → AllZip (IsBlock Tell) (map (written_element store) areas) (map (area_with_value store) areas)
elements_again store [] bytes h = tt
elements_again store (area ∷ areas) bytes h = (element_again store area bytes h.0, elements_again store areas bytes h.1)

sound_own : (size : ℕ) (elements : List (List (List ℕ))) (areas : List Block) → AllZip (IsBlock Ask) elements areas → AreInside areas size → AreSound size areas
sound_own size elements [] h k = tt
sound_own size [] (area ∷ areas) h k = absurd h
sound_own size (element ∷ elements) (area ∷ areas) ((offset, width, whole, o, w, none), others) k =
    (record { offset = o.small; width = w.0.small; some = w.1; inside = k.0 }, sound_own size elements areas others k.1)

sound_whole : (size : ℕ) → size < 65536 → AreSound size (whole_store size)
sound_whole zero h = tt
sound_whole (suc n) h = (record { offset = omega arith; width = h; some = omega arith; inside = omega arith }, tt)

sound_asked : (size : ℕ) (areas : List Block) → size < 65536 → AreSound size areas → AreSound size (blocks_asked areas size)
sound_asked size [] h k = subst (AreSound size) (asked_whole size) (sound_whole size h)
sound_asked size (area ∷ areas) h k = k

-- ---- the text

-- the parts with an `&` before each
abbrev with_each : List (List ℕ) → List ℕ
with_each parts = flat_map (λ part. 38 ∷ part) parts

join_each : (part : List ℕ) (parts : List (List ℕ)) → join_with_byte 38 (part ∷ parts) ≡ part ++ with_each parts
join_each part [] = sym (append-nil part)
join_each part (next ∷ parts) = ap (λ l. part ++ 38 ∷ l) (join_each next parts)

element_text : (store : List ℕ) (area : Block) → with_each (written_element store area) ≡ block_text store area
element_text store area =
    let front : List ℕ = codes "&OFFSET=" ++ four_digits area.offset ++ codes "&WIDTH=" ++ four_digits area.width ++ codes "&VALUE=" in
    ap (λ l. front ++ l) (append-nil (value_digits (bytes_of_area store area)))

elements_text : (store : List ℕ) (areas : List Block) → with_each (all_parts (map (written_element store) areas)) ≡ flat_map (block_text store) areas
elements_text store [] = refl
elements_text store (area ∷ areas) =
    flat_map-append (λ part. 38 ∷ part) (written_element store area) (all_parts (map (written_element store) areas))
    ∙ ap (λ l. l ++ with_each (all_parts (map (written_element store) areas))) (element_text store area)
    ∙ ap (λ l. block_text store area ++ l) (elements_text store areas)

five : (a b c d e f : List ℕ) → ((((a ++ b) ++ c) ++ d) ++ e) ++ f ≡ a ++ (b ++ (c ++ (d ++ (e ++ f))))
five a b c d e f =
    append_assoc (((a ++ b) ++ c) ++ d) e f ∙ append_assoc ((a ++ b) ++ c) d (e ++ f) ∙ append_assoc (a ++ b) c (d ++ (e ++ f)) ∙ append_assoc a b (c ++ (d ++ (e ++ f)))

header_again_text : (named : Header) (rest : List (List ℕ)) → header_text named ++ with_each rest ≡ join_with_byte 38 (written_header named rest)
header_again_text named rest =
    five (codes "GUID=" ++ flat_map hex_of named.guid) (codes "&NAME=") (flat_map four_digits named.name) (codes "&PATH=") (flat_map hex_of named.path) (with_each rest)
    ∙ sym (join_each (codes "GUID=" ++ flat_map hex_of named.guid) ((codes "NAME=" ++ flat_map four_digits named.name) ∷ (codes "PATH=" ++ flat_map hex_of named.path) ∷ rest))

pub read_back : (text : List ℕ) (named : Header) (areas : List Block) (store : List ℕ) → IsConfiguration Ask text named areas → IsBytes store → length store < 2 ^ 16 → AreInside areas (length store)
    → IsConfiguration Tell (response_to (named, areas) store) named (areas_with_values areas store)
read_back text named areas store h bytes few inside =
    let all = blocks_asked areas (length store) in
    let small : length store < 65536 = few in
    let below = below_each 256 store bytes in
    let sound = sound_asked (length store) areas small (sound_own (length store) h.blocks areas h.are_blocks inside) in
    let parts = all_parts (map (written_element store) all) in
    record {
      header = written_header named [];
      blocks = map (written_element store) all;
      whole = ap (λ l. header_text named ++ l) (sym (elements_text store all)) ∙ header_again_text named parts;
      is_header = header_again h.header named h.is_header;
      are_blocks = elements_again store all below sound;
    }
