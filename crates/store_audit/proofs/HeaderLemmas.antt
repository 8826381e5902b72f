-- The header of a store is read back.
use Rattle.std.proofs.Common.{◌≡◌, ◌∙◌, ◌++◌, ◌∷◌, ◌*◌, ◌+◌, ◌/◌, ◌%◌, ◌<◌, ℕ, List, [], Result, Ok, Err, suc, ap, append-nil, append_assoc, arith, codes, false, true, inl, inr, length, refl, sym}
use Rattle.std.specs.Char.{digit_value}
use Rattle.std.specs.Fmt.{digit_glyph}
use Rattle.std.specs.List.{AllByRecursion, filter, flat_map, join_with_byte}
use Rattle.std.specs.Str.Parse.{AllDigits, digits_value}
use Rattle.std.proofs.lemmas.Bool.{cases_lt, le-ltb, lt-ltb}
use Rattle.std.proofs.lemmas.Bool.Decides.{nat_tests}
use Rattle.std.proofs.lemmas.Int.Digits.{digits_value_push}
use Rattle.std.proofs.lemmas.List.Concat.{flat_map-append}
use Rattle.browser_rules.specs.Configuration.{Header, four_digits, request_in, response_in}
use Rattle.browser_rules.specs.Words.{Cause}
use Rattle.hii_bytes.specs.Numbers.{AreBytes}
use Rattle.hii_bytes.specs.Texts.{hex_of}
use Rattle.config_text.specs.Reading.{as_told}
use Rattle.config_text.specs.declared.kind.TextKind.{TextKind}
use Rattle.config_text.specs.declared.kind.TextKind.TheVariants.{Ask, Tell}
use Rattle.config_text.specs.laws.Grammar.{IsConfiguration}
use Rattle.config_text.specs.laws.Numbers.{AreGroups}
use Rattle.config_text.proofs.LawLemmas.{text_read}
use Rattle.config_text.proofs.RuleLemmas.{reading_means}
use Rattle.ifr_opcodes.specs.Forest.{Node}
use Rattle.store_audit.specs.Fillings.{has_bytes}
use Rattle.audit_json.specs.declared.telling.Telling.{Telling}
use Rattle.store_audit.specs.HeaderLines.{IsReadBack, header_text, header_told, naming}

-- ---- digits

glyph_value : (d : ℕ) → d < 16 → digit_value (digit_glyph false d) ≡ d
glyph_value d h = elim (cases_lt d 10) [
  | inl less ↦ rw (lt-ltb d 10 less) (grind (arith, nat_tests))
  | inr more ↦ rw (le-ltb d 10 more) (grind (arith, nat_tests))
]

-- a number in one more digit
pushed : (digits : List ℕ) (d : ℕ) → d < 16 → digits_value 16 (digits ++ digit_glyph false d ∷ []) ≡ digits_value 16 digits * 16 + d
pushed digits d h = digits_value_push 16 digits (digit_glyph false d) ∙ ap (λ v. digits_value 16 digits * 16 + v) (glyph_value d h)

hex_value : (b : ℕ) → b < 256 → digits_value 16 (hex_of b) ≡ b
hex_value b h =
    let none : digits_value 16 [] ≡ 0 = refl in
    let high = digit_glyph false (b / 16) in
    omega (arith, h, none, pushed [] (b / 16) (omega (arith, h)), pushed (high ∷ []) (b % 16) (omega arith))

hex_digits : (b : ℕ) → b < 256 → AllDigits 16 (hex_of b)
hex_digits b h =
    let high : b / 16 < 16 = omega (arith, h) in
    let low : b % 16 < 16 = omega arith in
    (omega (arith, high, glyph_value (b / 16) high), (omega (arith, low, glyph_value (b % 16) low), tt))

-- a byte as a character
pub character_is : (b : ℕ) → b < 256 → four_digits b ≡ hex_of 0 ++ hex_of b
character_is b h =
    let high : b / 256 ≡ 0 = omega (arith, h) in
    let low : b % 256 ≡ b = omega (arith, h) in
    rw (high, low) refl

character_value : (b : ℕ) → b < 256 → digits_value 16 (hex_of 0 ++ hex_of b) ≡ b
character_value b h =
    let none : digits_value 16 (hex_of 0) ≡ 0 = refl in
    let high = digit_glyph false (b / 16) in
    omega (arith, h, none, pushed (hex_of 0) (b / 16) (omega (arith, h)), pushed (hex_of 0 ++ high ∷ []) (b % 16) (omega arith))

behind_zeros : (digits : List ℕ) → AllDigits 16 digits → AllDigits 16 (hex_of 0 ++ digits)
behind_zeros digits all = (omega arith, (omega arith, all))

-- ---- groups of digits

pairs_written : (bytes : List ℕ) → AreBytes bytes → AreGroups 2 (flat_map hex_of bytes) bytes
pairs_written [] h = refl
pairs_written (b ∷ bytes) h =
    (hex_of b, flat_map hex_of bytes, refl, record { digits = hex_digits b (h 0); sized = refl; value = hex_value b (h 0) }, pairs_written bytes (λ k. h (suc k)))

characters_written : (name : List ℕ) → AreBytes name → AreGroups 4 (flat_map four_digits name) name
characters_written [] h = refl
characters_written (b ∷ name) h =
    let is = character_is b (h 0) in (
      four_digits b,
      flat_map four_digits name,
      refl,
      rw is record { digits = behind_zeros (hex_of b) (hex_digits b (h 0)); sized = refl; value = character_value b (h 0) },
      characters_written name (λ k. h (suc k)),
    )

-- ---- the text

five : (a b c d e f : List ℕ) → ((((a ++ b) ++ c) ++ d) ++ e) ++ f ≡ a ++ (b ++ (c ++ (d ++ (e ++ f))))
five a b c d e f =
    append_assoc (((a ++ b) ++ c) ++ d) e f ∙ append_assoc ((a ++ b) ++ c) d (e ++ f) ∙ append_assoc (a ++ b) c (d ++ (e ++ f)) ∙ append_assoc a b (c ++ (d ++ (e ++ f)))

-- the parts of a header
abbrev parts_of : Header → List (List ℕ)
parts_of header =
    (codes "GUID=" ++ flat_map hex_of header.guid) ∷ (codes "NAME=" ++ flat_map four_digits header.name) ∷ (codes "PATH=" ++ flat_map hex_of header.path) ∷ []

joined : (header : Header) → header_text header ≡ join_with_byte 38 (parts_of header)
joined header =
    append-nil _ ∙ five (codes "GUID=") (flat_map hex_of header.guid) (codes "&NAME=") (flat_map four_digits header.name) (codes "&PATH=") (flat_map hex_of header.path)

is_configuration : (kind : TextKind) (header : Header) → AreBytes header.guid → length header.guid ≡ 16 → AreBytes header.name → AreBytes header.path → IsConfiguration kind (header_text header) header []
is_configuration kind header guid sixteen name path = record {
  header = parts_of header;
  blocks = [];
  whole = joined header;
  is_header = record {
    guid_digits = flat_map hex_of header.guid;
    name_digits = flat_map four_digits header.name;
    path_digits = flat_map hex_of header.path;
    whole = refl;
    guid = pairs_written header.guid guid;
    sixteen = sixteen;
    name = characters_written header.name name;
    path = pairs_written header.path path;
  };
  are_blocks = tt;
}

-- what is read as told is read by the rules
told : {X : Type 0} (read : Result X Cause) (x : X) → as_told read ≡ Ok x → read ≡ Ok x
told (Ok y) x same = cc
told (Err cause) x same = cc

pub reads_back : (header : Header) → AreBytes header.guid → length header.guid ≡ 16 → AreBytes header.name → AreBytes header.path → IsReadBack header
reads_back header guid sixteen name path =
    let read = λ (kind : TextKind). sym (reading_means kind (header_text header)) ∙ text_read kind (header_text header) header [] (is_configuration kind header guid sixteen name path) in
    record { request = told (request_in (header_text header)) (header, []) (read Ask); response = told (response_in (header_text header)) (header, []) (read Tell) }

-- ---- the stores of which headers are written

-- one more store, which holds bytes
pub one_more : (left behind all : List Node) (n : Node) (done : List Node) → left ≡ n ∷ behind → has_bytes n ≡ true → done ++ filter has_bytes left ≡ all → (done ++ n ∷ []) ++ filter has_bytes behind ≡ all
one_more left behind all n done steps holds met =
    append_assoc done (n ∷ []) (filter has_bytes behind) ∙ ap (λ ns. done ++ ns) (sym (ap (filter has_bytes) steps ∙ rw holds refl)) ∙ met

pub told_more : (telling : Telling) (path : List ℕ) (done : List Node) (n : Node) → flat_map (header_told telling path) done ++ header_told telling path n ≡ flat_map (header_told telling path) (done ++ n ∷ [])
told_more telling path done n =
    let told = header_told telling path in
    sym (flat_map-append told done (n ∷ []) ∙ ap (λ text. flat_map told done ++ text) (append-nil (told n)))

pub read_more : (path : List ℕ) (done : List Node) (n : Node) → AllByRecursion (λ n. IsReadBack (naming path n)) done → IsReadBack (naming path n) → AllByRecursion (λ n. IsReadBack (naming path n)) (done ++ n ∷ [])
read_more path [] n all one = (one, tt)
read_more path (m ∷ done) n all one = (all.0, read_more path done n all.1 one)
