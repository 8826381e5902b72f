-- No byte of what is told of an opcode ends a line.
use Rattle.std.proofs.Common.{◌≡◌, ◌==◌, ℕ, zero, suc, ◌+◌, ◌/◌, ◌%◌, ◌-◌, Bool, true, false, cond, ltb, Option, Some, None, List, [], ◌∷◌, ◌++◌, get_or, map, drop, length, replicate, option_map, unwrap_or, refl, sym, ap, ◌∙◌, arith, inl, inr}
use Rattle.std.specs.Prelude.{◌&&◌, ◌||◌, not, nat_le, nat_lt, codes, decimal, encode_utf8, slice_index, slice_range}
use Rattle.std.specs.Fmt.{digit_glyph, digits, digits_onto}
use Rattle.std.specs.Int.Digits as numbers
use Rattle.std.specs.List.{find, flat_map, list_all}
use Rattle.std.specs.Option.{option_or}
use Rattle.std.proofs.lemmas.Bool.{cases_Bool, eqb-true, false≢true, ne_eqb}
use Rattle.browser_rules.specs.Opcodes.{Layout, Row, rows, row_of, number, FLAGGED_QUESTION, field_in, field, number_width, EQ_ID_VAL_LIST, ONE_OF_OPTION, DEFAULT}
use Rattle.browser_rules.specs.Strings.{Spoken, shown}
use Rattle.hii_bytes.specs.Texts.{hex_of, place_text}
use Rattle.audit_json.specs.Json.{escape, json_char, json_text, unit_escape}
use Rattle.audit_text.specs.Texts.{byte_digits, digits_of, guid_text, hex_text, is_unsafe}
use Rattle.audit_text.specs.Words.{opcode_name, opcode_names}
use Rattle.ifr_opcodes.specs.declared.codes.TheConstants as code
use Rattle.audit_json.specs.Objects.{quoted}
use Rattle.opcode_audit.specs.Layouts.{Field, field_of, fields_of, further, layout_in, layout_of}
use Rattle.opcode_audit.specs.Facts.{Fact, Value, a_number, some_bits, an_id, a_guid_of, some_bytes, a_name, some_numbers, fact_in, facts_in, name_of_store, opcode_facts, tail_of, typed, values_listed, value_in}
use Rattle.opcode_audit.specs.Facts as spec
use Rattle.opcode_audit.specs.Words.{behind_comma, fact_json, fact_text, facts_json, name_or_number, numbers_text, opcode_words, said_text, text_json, value_json, value_text}
use Rattle.opcode_audit.specs.laws.Telling.{ends_line}

abbrev pub IsInLine : List ℕ → Type 0
IsInLine text = ends_line text ≡ false

-- ---- pieces

one_more : (c : ℕ) (cs : List ℕ) → (c == 10) ≡ false → IsInLine cs → IsInLine (c ∷ cs)
one_more c cs e f = rw e f

neither : (a b : Bool) → a || b ≡ false → (a ≡ false) × (b ≡ false)
neither false b e = (refl, e)
neither true b e = absurd (false≢true (sym e))

pub both : (a b : List ℕ) → IsInLine a → IsInLine b → IsInLine (a ++ b)
both [] b e f = f
both (c ∷ a) b e f = let p = neither (c == 10) (ends_line a) e in one_more c (a ++ b) p.0 (both a b p.1 f)

each : (f : ℕ → List ℕ) → ((x : ℕ) → IsInLine (f x)) → (xs : List ℕ) → IsInLine (flat_map f xs)
each f one [] = refl
each f one (x ∷ xs) = both (f x) (flat_map f xs) (one x) (each f one xs)

either_way : (b : Bool) (x y : List ℕ) → IsInLine x → IsInLine y → IsInLine (cond b x y)
either_way true x y e f = e
either_way false x y e f = f

pub spaces : (n : ℕ) → IsInLine (replicate n 32)
spaces zero = refl
spaces (suc n) = spaces n

-- ---- digits

glyph : (upper : Bool) (d : ℕ) → (digit_glyph upper d == 10) ≡ false
glyph upper d = elim (cases_Bool (nat_lt d 10)) [
  | inl e ↦ rw e (ne_eqb (48 + d) 10 (omega arith))
  | inr e ↦ elim (cases_Bool upper) [ inl u ↦ rw (e, u) (ne_eqb (55 + d) 10 (omega arith)) | inr u ↦ rw (e, u) (ne_eqb (87 + d) 10 (omega arith)) ]
]

two_digits : (upper : Bool) (b : ℕ) → IsInLine (byte_digits upper b)
two_digits upper b =
    let low = digit_glyph upper (b % 16) in
    one_more (digit_glyph upper (b / 16)) (low ∷ []) (glyph upper (b / 16)) (one_more low [] (glyph upper (b % 16)) refl)

pub hex_bytes : (upper : Bool) (bytes : List ℕ) → IsInLine (digits_of upper bytes)
hex_bytes upper bytes = each (byte_digits upper) (two_digits upper) bytes

glyphs : (ds : List ℕ) → IsInLine (map (digit_glyph false) ds)
glyphs [] = refl
glyphs (d ∷ ds) = one_more (digit_glyph false d) (map (digit_glyph false) ds) (glyph false d) (glyphs ds)

hex_number : (n : ℕ) → IsInLine (hex_text n)
hex_number n = either_way (n == 0) _ _ refl (glyphs (numbers.digits_of 16 n))

onto : (k base n : ℕ) (acc : List ℕ) → IsInLine acc → IsInLine (digits_onto k base false n acc)
onto zero base n acc e = e
onto (suc k) base n acc e =
    let last = digit_glyph false (n % base) in
    let more = one_more last acc (glyph false (n % base)) e in
    either_way (n / base == 0) (last ∷ acc) (digits_onto k base false (n / base) (last ∷ acc)) more (onto k base (n / base) (last ∷ acc) more)

pub decimal_number : (n : ℕ) → IsInLine (decimal n)
unfolding digits
decimal_number n = onto 64 10 n [] refl

pub place : (n : ℕ) → IsInLine (place_text n)
place n =
    let a = hex_of (n / 0x1000000 % 256) in
    let b = hex_of (n / 0x10000 % 256) in
    let c = hex_of (n / 0x100 % 256) in
    let d = hex_of (n % 256) in
    let first = both a b (two_digits false (n / 0x1000000 % 256)) (two_digits false (n / 0x10000 % 256)) in
    both (a ++ b ++ c) d (both (a ++ b) c first (two_digits false (n / 0x100 % 256))) (two_digits false (n % 256))

behind_hyphen : (text bytes : List ℕ) → IsInLine text → IsInLine (text ++ codes "-" ++ digits_of true bytes)
behind_hyphen text bytes e = both (text ++ codes "-") (digits_of true bytes) (both text (codes "-") e refl) (hex_bytes true bytes)

guid : (bytes : List ℕ) → IsInLine (guid_text true bytes)
guid bytes =
    let first = slice_index bytes 3 ∷ slice_index bytes 2 ∷ slice_index bytes 1 ∷ slice_index bytes 0 ∷ [] in
    let second = slice_index bytes 5 ∷ slice_index bytes 4 ∷ [] in
    let third = slice_index bytes 7 ∷ slice_index bytes 6 ∷ [] in
    let a = behind_hyphen (digits_of true first) second (hex_bytes true first) in
    let b = behind_hyphen (digits_of true first ++ codes "-" ++ digits_of true second) third a in
    let c = behind_hyphen (digits_of true first ++ codes "-" ++ digits_of true second ++ codes "-" ++ digits_of true third) (slice_range bytes 8 10) b in
    behind_hyphen (digits_of true first ++ codes "-" ++ digits_of true second ++ codes "-" ++ digits_of true third ++ codes "-" ++ digits_of true (slice_range bytes 8 10)) (slice_range bytes 10 16) c

-- ---- texts

encoded : (c : ℕ) → (c == 10) ≡ false → IsInLine (encode_utf8 c)
unfolding lib.Utf8.encode
encoded c e =
    let at_four = 128 + c % 64 in
    let at_three = 128 + c / 64 % 64 in
    let at_two = 128 + c / 4096 % 64 in
    let last = one_more at_four [] (ne_eqb at_four 10 (omega arith)) refl in
    let third = one_more at_three (at_four ∷ []) (ne_eqb at_three 10 (omega arith)) last in
    let second = one_more at_two (at_three ∷ at_four ∷ []) (ne_eqb at_two 10 (omega arith)) third in
    let of_two = one_more (192 + c / 64) (at_four ∷ []) (ne_eqb (192 + c / 64) 10 (omega arith)) last in
    let of_three = one_more (224 + c / 4096) (at_three ∷ at_four ∷ []) (ne_eqb (224 + c / 4096) 10 (omega arith)) third in
    let of_four = one_more (240 + c / 262144) (at_two ∷ at_three ∷ at_four ∷ []) (ne_eqb (240 + c / 262144) 10 (omega arith)) second in
    either_way (ltb c 128) _ _ (one_more c [] e refl) (either_way (ltb c 2048) _ _ of_two (either_way (ltb c 65536) _ _ of_three of_four))

-- a line feed is neither a quotation mark nor a backslash, and is unsafe
no_feed : (test : ℕ → Bool) (is : Bool) (c : ℕ) → test c ≡ is → test 10 ≡ not is → (c == 10) ≡ false
no_feed test is c e f = elim (cases_Bool (c == 10)) [ inr other ↦ other | inl same ↦ absurd (bad is (sym e ∙ ap test (eqb-true c 10 same) ∙ f)) ]
  where
    bad : (b : Bool) → b ≡ not b → ⊥
    bad true e = false≢true (sym e)
    bad false e = false≢true e

unit : (u : ℕ) → IsInLine (unit_escape u)
unit u = both (codes "\\u" ++ hex_of (u / 256)) (hex_of (u % 256)) (both (codes "\\u") (hex_of (u / 256)) refl (two_digits false (u / 256))) (two_digits false (u % 256))

escaped : (c : ℕ) → IsInLine (escape c)
escaped c =
    let high = 0xD800 + (c - 0x10000) / 0x400 in
    let low = 0xDC00 + (c - 0x10000) % 0x400 in
    either_way (nat_lt c 0x10000) (unit_escape c) (unit_escape high ++ unit_escape low) (unit c) (both (unit_escape high) (unit_escape low) (unit high) (unit low))

character : (c : ℕ) → IsInLine (json_char c)
character c = elim (cases_Bool (c == 34 || c == 92)) [
  | inl a ↦ rw a (both (codes "\\") (encode_utf8 c) refl (encoded c (no_feed (λ x. x == 34 || x == 92) true c a refl)))
  | inr a ↦ elim (cases_Bool (is_unsafe c)) [
    | inl b ↦ rw (a, b) (escaped c)
    | inr b ↦ rw (a, b) (encoded c (no_feed is_unsafe false c b refl))
  ]
]

string : (text : List ℕ) → IsInLine (json_text text)
string text =
    let inside = flat_map json_char text in
    both (codes "\"" ++ inside) (codes "\"") (both (codes "\"") inside refl (each json_char character text)) refl

-- ---- names

name_in : (names : List (List ℕ)) → list_all (λ n. not (ends_line n)) names ≡ true → (k : ℕ) → IsInLine (get_or names k [])
name_in [] all k = refl
name_in (n ∷ names) all zero = go (ends_line n) all
  where
    go : (b : Bool) → not b && list_all (λ m. not (ends_line m)) names ≡ true → b ≡ false
    go false e = refl
    go true e = absurd (false≢true e)
name_in (n ∷ names) all (suc k) = name_in names (go (ends_line n) all) k
  where
    go : (b : Bool) → not b && list_all (λ m. not (ends_line m)) names ≡ true → list_all (λ m. not (ends_line m)) names ≡ true
    go false e = e
    go true e = absurd (false≢true e)

pub opcode_named : (k : ℕ) → IsInLine (name_or_number k)
opcode_named k = either_way (length (opcode_name k) == 0) _ _ (both (codes "0x") (hex_of k) refl (two_digits false k)) (name_in opcode_names refl k)

-- ---- fields

abbrev AreNamed : List Field → Type 0
AreNamed [] = Unit
AreNamed (f ∷ fs) = IsInLine f.name × AreNamed fs

abbrev is_named : Layout → Bool
is_named layout = list_all (λ part. not (ends_line (codes part.0))) layout

both_true : (a b : Bool) → a && b ≡ true → (a ≡ true) × (b ≡ true)
both_true true b e = (refl, e)
both_true false b e = absurd (false≢true e)

not_true : (b : Bool) → not b ≡ true → b ≡ false
not_true false e = refl
not_true true e = absurd (false≢true e)

named_layout : (layout : Layout) → is_named layout ≡ true → AreNamed (map field_of layout)
named_layout [] all = tt
named_layout (part ∷ layout) all =
    let p = both_true (not (ends_line (codes part.0))) (is_named layout) all in (not_true (ends_line (codes part.0)) p.0, named_layout layout p.1)

abbrev is_named_option : Option Layout → Bool
is_named_option None = true
is_named_option (Some layout) = is_named layout

in_table : (table : List (ℕ × Layout)) (k : ℕ) → list_all (λ e. is_named e.1) table ≡ true → is_named_option (layout_in table k) ≡ true
in_table [] k all = refl
in_table (entry ∷ table) k all =
    let p = both_true (is_named entry.1) (list_all (λ e. is_named e.1) table) all in
    elim (cases_Bool (entry.0 == k)) [ inl here ↦ rw here p.0 | inr other ↦ rw other (in_table table k p.1) ]

in_rows : (table : List Row) (k : ℕ) → list_all (λ r. is_named r.layout) table ≡ true → is_named_option (option_map (λ r. r.layout) (find (λ r. r.number == k) table)) ≡ true
in_rows [] k all = refl
in_rows (row ∷ table) k all =
    let p = both_true (is_named row.layout) (list_all (λ r. is_named r.layout) table) all in
    elim (cases_Bool (row.number == k)) [ inl here ↦ rw here p.0 | inr other ↦ rw other (in_rows table k p.1) ]

either_option : (a b : Option Layout) → is_named_option a ≡ true → is_named_option b ≡ true → is_named (unwrap_or (option_or a b) []) ≡ true
either_option (Some layout) b e f = e
either_option None (Some layout) e f = f
either_option None None e f = refl

fields_named : (k : ℕ) → AreNamed (fields_of k)
unfolding row_of
fields_named k = named_layout (layout_of k) (either_option (layout_in further k) (option_map (λ r. r.layout) (row_of k)) (in_table further k refl) (in_rows rows k refl))

-- ---- facts

abbrev NamesInLine : List Fact → Type 0
NamesInLine [] = Unit
NamesInLine (f ∷ fs) = IsInLine f.name × NamesInLine fs

names_in_both : (fs gs : List Fact) → NamesInLine fs → NamesInLine gs → NamesInLine (fs ++ gs)
names_in_both [] gs e h = h
names_in_both (f ∷ fs) gs e h = (e.0, names_in_both fs gs e.1 h)

named_both : (fs gs : List Field) → AreNamed fs → AreNamed gs → AreNamed (fs ++ gs)
named_both [] gs e h = h
named_both (f ∷ fs) gs e h = (e.0, named_both fs gs e.1 h)

either_fact : (b : Bool) (f : Fact) → IsInLine f.name → NamesInLine (cond b (f ∷ []) [])
either_fact true f e = (e, tt)
either_fact false f e = tt

facts_named : (fs : List Field) (bytes : List ℕ) → AreNamed fs → NamesInLine (facts_in fs bytes)
facts_named [] bytes are = tt
facts_named (f ∷ fs) bytes are =
    names_in_both (fact_in f bytes) (facts_in fs (drop f.width bytes)) (either_fact (nat_le f.width (length bytes)) record { name = f.name; value = value_in f.kind f.width bytes } are.0)
    (facts_named fs (drop f.width bytes) are.1)

either_fields : (b : Bool) (fs gs : List Field) → AreNamed fs → AreNamed gs → AreNamed (cond b fs gs)
either_fields true fs gs e h = e
either_fields false fs gs e h = h

typed_named : (kind : ℕ) → AreNamed (typed kind)
typed_named kind = either_fields (nat_le kind 4) _ _ (refl, tt) (either_fields (kind == 7) _ _ (refl, tt) (refl, tt))

tail_named : (op : List ℕ) → AreNamed (tail_of op)
tail_named op =
    let n = number op in
    let count = field EQ_ID_VAL_LIST "ListLength" op in
    either_fields (n == code.NUMERIC || n == code.ONE_OF) (spec.numbers (number_width (field_in FLAGGED_QUESTION "Flags" op))) _ (refl, (refl, (refl, tt)))
    (either_fields (n == code.ONE_OF_OPTION) (typed (field ONE_OF_OPTION "Type" op)) _ (typed_named (field ONE_OF_OPTION "Type" op))
    (either_fields (n == code.DEFAULT) (typed (field DEFAULT "Type" op)) _ (typed_named (field DEFAULT "Type" op))
    (either_fields (n == code.EQ_ID_VAL_LIST) (values_listed count) _ (either_fields (count == 0) [] _ tt (refl, tt))
    (either_fields (n == code.VARSTORE || n == code.VARSTORE_EFI) name_of_store [] (refl, tt) tt))))

opcode_named_facts : (op : List ℕ) → NamesInLine (opcode_facts op)
opcode_named_facts op =
    let fs = fields_of (number op) in
    facts_named (fs ++ tail_of op) (drop 2 op) (named_both fs (tail_of op) (fields_named (number op)) (tail_named op))

-- ---- values

numbers_words : (ns : List ℕ) → IsInLine (numbers_text ns)
numbers_words [] = refl
numbers_words (n ∷ ns) = both (decimal n) (flat_map behind_comma ns) (decimal_number n) (each behind_comma (λ m. both (codes ",") (decimal m) refl (decimal_number m)) ns)

said_words : (spoken : List Spoken) (id : ℕ) → IsInLine (said_text spoken id)
said_words spoken id = string (shown spoken (Some 0) id)

value_words : (spoken : List Spoken) (v : Value) → IsInLine (value_text spoken v)
value_words spoken (a_number n) = decimal_number n
value_words spoken (some_bits n) = both (codes "0x") (hex_text n) refl (hex_number n)
value_words spoken (an_id id) =
    let behind : List ℕ = cond (id == 0) [] (codes " " ++ said_text spoken id) in
    both (decimal id) behind (decimal_number id) (either_way (id == 0) [] (codes " " ++ said_text spoken id) refl (both (codes " ") (said_text spoken id) refl (said_words spoken id)))
value_words spoken (a_guid_of bytes) = guid bytes
value_words spoken (some_bytes bytes) = hex_bytes false bytes
value_words spoken (a_name name) = string name
value_words spoken (some_numbers ns) = numbers_words ns

pub within_quotes : (text : List ℕ) → IsInLine text → IsInLine (quoted text)
within_quotes text e = both (codes "\"" ++ text) (codes "\"") (both (codes "\"") text refl e) refl

value_members : (v : Value) → IsInLine (value_json v)
value_members (a_number n) = decimal_number n
value_members (some_bits n) = decimal_number n
value_members (an_id id) = decimal_number id
value_members (a_guid_of bytes) = within_quotes (guid_text true bytes) (guid bytes)
value_members (some_bytes bytes) = within_quotes (digits_of false bytes) (hex_bytes false bytes)
value_members (a_name name) = string name
value_members (some_numbers ns) = both (codes "[" ++ numbers_text ns) (codes "]") (both (codes "[") (numbers_text ns) refl (numbers_words ns)) refl

text_members : (spoken : List Spoken) (name : List ℕ) (v : Value) → IsInLine name → IsInLine (text_json spoken name v)
text_members spoken name (a_number n) e = refl
text_members spoken name (some_bits n) e = refl
text_members spoken name (an_id id) e =
    either_way (id == 0) [] _ refl
    (both (codes ",\"" ++ name ++ codes "Text\":") (said_text spoken id) (both (codes ",\"" ++ name) (codes "Text\":") (both (codes ",\"") name refl e) refl) (said_words spoken id))
text_members spoken name (a_guid_of bytes) e = refl
text_members spoken name (some_bytes bytes) e = refl
text_members spoken name (a_name n) e = refl
text_members spoken name (some_numbers ns) e = refl

-- ---- facts in words

facts_words : (spoken : List Spoken) (fs : List Fact) → NamesInLine fs → IsInLine (flat_map (fact_text spoken) fs)
facts_words spoken [] are = refl
facts_words spoken (f ∷ fs) are =
    both (fact_text spoken f) (flat_map (fact_text spoken) fs)
    (both (codes " " ++ f.name ++ codes "=") (value_text spoken f.value) (both (codes " " ++ f.name) (codes "=") (both (codes " ") f.name refl are.0) refl) (value_words spoken f.value)) (facts_words spoken fs are.1)

fact_members : (spoken : List Spoken) (f : Fact) → IsInLine f.name → IsInLine (fact_json spoken f)
fact_members spoken f e =
    let key : List ℕ = codes "\"" ++ f.name ++ codes "\":" in
    both (key ++ value_json f.value) (text_json spoken f.name f.value)
    (both key (value_json f.value) (both (codes "\"" ++ f.name) (codes "\":") (both (codes "\"") f.name refl e) refl) (value_members f.value)) (text_members spoken f.name f.value e)

later_members : (spoken : List Spoken) (fs : List Fact) → NamesInLine fs → IsInLine (flat_map (λ f. codes "," ++ fact_json spoken f) fs)
later_members spoken [] are = refl
later_members spoken (f ∷ fs) are =
    both (codes "," ++ fact_json spoken f) (flat_map (λ g. codes "," ++ fact_json spoken g) fs) (both (codes ",") (fact_json spoken f) refl (fact_members spoken f are.0)) (later_members spoken fs are.1)

all_members : (spoken : List Spoken) (fs : List Fact) → NamesInLine fs → IsInLine (facts_json spoken fs)
all_members spoken [] are = refl
all_members spoken (f ∷ fs) are = both (fact_json spoken f) (flat_map (λ g. codes "," ++ fact_json spoken g) fs) (fact_members spoken f are.0) (later_members spoken fs are.1)

pub words : (spoken : List Spoken) (op : List ℕ) → IsInLine (opcode_words spoken op)
words spoken op = both (name_or_number (number op)) (flat_map (fact_text spoken) (opcode_facts op)) (opcode_named (number op)) (facts_words spoken (opcode_facts op) (opcode_named_facts op))

pub members : (spoken : List Spoken) (op : List ℕ) → IsInLine (facts_json spoken (opcode_facts op))
members spoken op = all_members spoken (opcode_facts op) (opcode_named_facts op)
