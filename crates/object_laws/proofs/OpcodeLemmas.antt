-- Objects of `opcodes` tell facts.
use Rattle.std.proofs.Common.{◌≡◌, ◌==◌, ◌&&◌, ◌||◌, ℕ, zero, suc, ◌+◌, ◌-◌, ◌*◌, ◌^◌, ◌<◌, ◌≤◌, nat_le, Bool, true, false, cond, List, [], ◌∷◌, ◌++◌, length, map, take, drop, Option, Some, None, option_map, unwrap_or, decimal, codes, refl, sym, ap, subst, append_assoc, arith, inl, inr}
use Prim.Native.String.{String}
use Rattle.std.specs.List.{AllByRecursion, find, flat_map, list_all, position_or_len}
use Rattle.std.specs.Option.{option_or}
use Rattle.std.specs.Str.{all_scalars}
use Rattle.std.proofs.lemmas.Bool.{and_parts, cases_Bool, cond_both, leb-true}
use Rattle.std.specs.Int.Bits.{bit_and, mask_lt}
use Rattle.browser_rules.specs.Faults as chapter
use Rattle.browser_rules.specs.Opcodes.{DEFAULT, EQ_ID_VAL_LIST, FLAGGED_QUESTION, Layout, ONE_OF_OPTION, Row, field, field_in, number, number_width, row_of, rows, two_byte_numbers, type_width}
use Rattle.browser_rules.specs.Packages.{Package, STRINGS, packages_with}
use Rattle.browser_rules.specs.Strings.{Spoken, shown}
use Rattle.hii_bytes.specs.Numbers.{AreBytes, number_in}
use Rattle.hii_bytes.specs.Texts.{hex_of}
use Rattle.hii_bytes.proofs.NumberLemmas.{number_in-lt}
use Rattle.ifr_opcodes.specs.declared.codes.TheConstants as code
use Rattle.audit_text.specs.Texts.{digits_of, guid_text}
use Rattle.audit_text.specs.Words.{opcode_name}
use Rattle.audit_json.specs.Objects.{first_member, inner_object, joined}
use Rattle.opcode_audit.specs.Facts.{Fact, Value, a_guid_of, a_name, a_number, an_id, fact_in, facts_in, name_of_store, opcode_facts, some_bits, some_bytes, some_numbers, tail_of, typed, value_in, values_listed}
use Rattle.opcode_audit.specs.Facts as spec
use Rattle.opcode_audit.specs.Layouts.{Field, Kind, a_guid, a_text, field_of, fields_of, further, in_decimal, in_hex, kind_of, layout_in, layout_of, listed_so_many, the_rest, to_nul}
use Rattle.opcode_audit.specs.Lines.{Setting, opcode_object, said_by, said_first, said_without}
use Rattle.opcode_audit.specs.Words.{behind_comma, fact_json, facts_json, name_or_number, numbers_text, said_text, text_json, value_json}
use Rattle.json_laws.specs.laws.Telling.{IsReadBack, TellsFacts, TellsValue, TellValues}
use Rattle.json_laws.specs.laws.Written.{IsWord, is_plain}
use Rattle.json_laws.specs.Reading.{object, no_facts}
use Rattle.json_laws.proofs.ShownLemmas.{AreSpoken, HaveBytes, no_spoken, said_good, shown_by, strings_have_bytes}
use Rattle.json_laws.proofs.TellingLemmas.{read_back, tell_more, tell_none, tells_array, tells_behind, tells_inner, tells_member, tells_nothing, tells_number, tells_text, tells_value, tells_word}
use Rattle.json_laws.proofs.WordLemmas.{Bytes, all_bytes, are_bytes, bytes_are_text, bytes_drop, bytes_take, bytes_word, guid_word, opcode_word, word_behind}

-- ---- what fields hold

abbrev pub AreSmall : List ℕ → Type 0
AreSmall ns = AllByRecursion (λ n. n < 2 ^ 64) ns

abbrev pub IsGoodValue : Value → Type 0
IsGoodValue (a_number n) = n < 2 ^ 64
IsGoodValue (some_bits n) = n < 2 ^ 64
IsGoodValue (an_id n) = n < 2 ^ 64
IsGoodValue (a_guid_of bytes) = Bytes bytes
IsGoodValue (some_bytes bytes) = Bytes bytes
IsGoodValue (a_name bytes) = Bytes bytes
IsGoodValue (some_numbers ns) = AreSmall ns

-- a number of so many bytes has 64 bits
abbrev fits : Kind → ℕ → Bool
fits in_decimal width = nat_le width 8
fits in_hex width = nat_le width 8
fits a_text width = nat_le width 8
fits a_guid width = true
fits the_rest width = true
fits to_nul width = true
fits (listed_so_many count) width = true

pub number_small : (bytes : List ℕ) (width : ℕ) → Bytes bytes → width ≤ 8 → number_in bytes 0 width < 2 ^ 64
number_small bytes zero all few = let small : number_in bytes 0 0 < 1 = number_in-lt bytes 0 0 (are_bytes bytes all) in omega arith
number_small bytes (suc zero) all few = let small : number_in bytes 0 1 < 256 = number_in-lt bytes 0 1 (are_bytes bytes all) in omega arith
number_small bytes (suc (suc zero)) all few = let small : number_in bytes 0 2 < 65536 = number_in-lt bytes 0 2 (are_bytes bytes all) in omega arith
number_small bytes (suc (suc (suc zero))) all few = let small : number_in bytes 0 3 < 256 ^ 3 = number_in-lt bytes 0 3 (are_bytes bytes all) in omega arith
number_small bytes (suc (suc (suc (suc zero)))) all few = let small : number_in bytes 0 4 < 256 ^ 4 = number_in-lt bytes 0 4 (are_bytes bytes all) in omega arith
number_small bytes (suc (suc (suc (suc (suc zero))))) all few = let small : number_in bytes 0 5 < 256 ^ 5 = number_in-lt bytes 0 5 (are_bytes bytes all) in omega arith
number_small bytes (suc (suc (suc (suc (suc (suc zero)))))) all few = let small : number_in bytes 0 6 < 256 ^ 6 = number_in-lt bytes 0 6 (are_bytes bytes all) in omega arith
number_small bytes (suc (suc (suc (suc (suc (suc (suc zero))))))) all few = let small : number_in bytes 0 7 < 256 ^ 7 = number_in-lt bytes 0 7 (are_bytes bytes all) in omega arith
number_small bytes (suc (suc (suc (suc (suc (suc (suc (suc zero)))))))) all few = number_in-lt bytes 0 8 (are_bytes bytes all)
number_small bytes (suc (suc (suc (suc (suc (suc (suc (suc (suc width))))))))) all few = absurd (omega arith)

listed_small : (bytes : List ℕ) → Bytes bytes → AreSmall (two_byte_numbers bytes)
listed_small [] all = tt
listed_small (low ∷ []) all = tt
listed_small (low ∷ high ∷ bytes) all = let one = all.0 in let other = all.1.0 in (omega arith, listed_small bytes all.1.1)

value_good : (kind : Kind) (width : ℕ) (bytes : List ℕ) → fits kind width ≡ true → Bytes bytes → IsGoodValue (value_in kind width bytes)
value_good in_decimal width bytes fit all = number_small bytes width all (leb-true width 8 fit)
value_good in_hex width bytes fit all = number_small bytes width all (leb-true width 8 fit)
value_good a_text width bytes fit all = number_small bytes width all (leb-true width 8 fit)
value_good a_guid width bytes fit all = bytes_take (width - 0) bytes all
value_good the_rest width bytes fit all = all
value_good to_nul width bytes fit all = bytes_take (position_or_len (λ byte. byte == 0) bytes) bytes all
value_good (listed_so_many count) width bytes fit all = listed_small (take (2 * count) bytes) (bytes_take (2 * count) bytes all)

-- ---- fields

abbrev AreGood : List Field → Type 0
AreGood fs = AllByRecursion (λ f. IsWord f.name × (fits f.kind f.width ≡ true)) fs

abbrev is_good_part : String × ℕ → Bool
is_good_part part = list_all is_plain (codes part.0) && fits (kind_of part.0) part.1

abbrev is_good : Layout → Bool
is_good layout = list_all is_good_part layout

good_layout : (layout : Layout) → is_good layout ≡ true → AreGood (map field_of layout)
good_layout [] all = tt
good_layout (part ∷ layout) all =
    let p = and_parts (is_good_part part) (is_good layout) all in
    let one = and_parts (list_all is_plain (codes part.0)) (fits (kind_of part.0) part.1) p.0 in
    ((one.0, one.1), good_layout layout p.1)

abbrev is_good_option : Option Layout → Bool
is_good_option None = true
is_good_option (Some layout) = is_good layout

in_table : (table : List (ℕ × Layout)) (k : ℕ) → list_all (λ e. is_good e.1) table ≡ true → is_good_option (layout_in table k) ≡ true
in_table [] k all = refl
in_table (entry ∷ table) k all =
    let p = and_parts (is_good entry.1) (list_all (λ e. is_good e.1) table) all in
    elim (cases_Bool (entry.0 == k)) [ inl here ↦ rw here p.0 | inr other ↦ rw other (in_table table k p.1) ]

in_rows : (table : List Row) (k : ℕ) → list_all (λ r. is_good r.layout) table ≡ true → is_good_option (option_map (λ r. r.layout) (find (λ r. r.number == k) table)) ≡ true
in_rows [] k all = refl
in_rows (row ∷ table) k all =
    let p = and_parts (is_good row.layout) (list_all (λ r. is_good r.layout) table) all in
    elim (cases_Bool (row.number == k)) [ inl here ↦ rw here p.0 | inr other ↦ rw other (in_rows table k p.1) ]

either_option : (a b : Option Layout) → is_good_option a ≡ true → is_good_option b ≡ true → is_good (unwrap_or (option_or a b) []) ≡ true
either_option (Some layout) b e f = e
either_option None (Some layout) e f = f
either_option None None e f = refl

fields_good : (k : ℕ) → AreGood (fields_of k)
unfolding row_of
fields_good k = good_layout (layout_of k) (either_option (layout_in further k) (option_map (λ r. r.layout) (row_of k)) (in_table further k refl) (in_rows rows k refl))

both_good : (fs gs : List Field) → AreGood fs → AreGood gs → AreGood (fs ++ gs)
both_good [] gs e h = h
both_good (f ∷ fs) gs e h = (e.0, both_good fs gs e.1 h)

either_fields : (b : Bool) (fs gs : List Field) → AreGood fs → AreGood gs → AreGood (cond b fs gs)
either_fields true fs gs e h = e
either_fields false fs gs e h = h

pub power_few : (n : ℕ) → n < 4 → nat_le (2 ^ n) 8 ≡ true
power_few zero few = refl
power_few (suc zero) few = refl
power_few (suc (suc zero)) few = refl
power_few (suc (suc (suc zero))) few = refl
power_few (suc (suc (suc (suc n)))) few = absurd (omega arith)

width_few : (kind : ℕ) → nat_le (type_width kind) 8 ≡ true
width_few zero = refl
width_few (suc zero) = refl
width_few (suc (suc zero)) = refl
width_few (suc (suc (suc zero))) = refl
width_few (suc (suc (suc (suc zero)))) = refl
width_few (suc (suc (suc (suc (suc zero))))) = refl
width_few (suc (suc (suc (suc (suc (suc zero)))))) = refl
width_few (suc (suc (suc (suc (suc (suc (suc zero))))))) = refl
width_few (suc (suc (suc (suc (suc (suc (suc (suc n)))))))) = refl

numbers_good : (flags : ℕ) → AreGood (spec.numbers (number_width flags))
numbers_good flags = let few = power_few (bit_and flags 3) (mask_lt flags 2) in ((refl, few), ((refl, few), ((refl, few), tt)))

typed_good : (kind : ℕ) → AreGood (typed kind)
typed_good kind = either_fields (nat_le kind 4) _ _ ((refl, width_few kind), tt) (either_fields (kind == 7) _ _ ((refl, refl), tt) ((refl, refl), tt))

tail_good : (op : List ℕ) → AreGood (tail_of op)
tail_good op =
    let n = number op in
    let count = field EQ_ID_VAL_LIST "ListLength" op in
    either_fields (n == code.NUMERIC || n == code.ONE_OF) (spec.numbers (number_width (field_in FLAGGED_QUESTION "Flags" op))) _ (numbers_good (field_in FLAGGED_QUESTION "Flags" op))
    (either_fields (n == code.ONE_OF_OPTION) (typed (field ONE_OF_OPTION "Type" op)) _ (typed_good (field ONE_OF_OPTION "Type" op))
    (either_fields (n == code.DEFAULT) (typed (field DEFAULT "Type" op)) _ (typed_good (field DEFAULT "Type" op))
    (either_fields (n == code.EQ_ID_VAL_LIST) (values_listed count) _ (either_fields (count == 0) [] _ tt ((refl, refl), tt))
    (either_fields (n == code.VARSTORE || n == code.VARSTORE_EFI) name_of_store [] ((refl, refl), tt) tt))))

-- ---- facts

abbrev pub GoodFacts : List Fact → Type 0
GoodFacts fs = AllByRecursion (λ f. IsWord f.name × IsGoodValue f.value) fs

both_facts : (fs gs : List Fact) → GoodFacts fs → GoodFacts gs → GoodFacts (fs ++ gs)
both_facts [] gs e h = h
both_facts (f ∷ fs) gs e h = (e.0, both_facts fs gs e.1 h)

facts_good : (fs : List Field) (bytes : List ℕ) → AreGood fs → Bytes bytes → GoodFacts (facts_in fs bytes)
facts_good [] bytes are all = tt
facts_good (f ∷ fs) bytes are all =
    let it : Fact = record { name = f.name; value = value_in f.kind f.width bytes } in
    both_facts (fact_in f bytes) (facts_in fs (drop f.width bytes))
    (cond_both (nat_le f.width (length bytes)) (it ∷ []) [] GoodFacts (λ _. ((are.0.0, value_good f.kind f.width bytes are.0.1 all), tt)) (λ _. tt))
    (facts_good fs (drop f.width bytes) are.1 (bytes_drop f.width bytes all))

pub opcode_facts_good : (op : List ℕ) → Bytes op → GoodFacts (opcode_facts op)
opcode_facts_good op all =
    facts_good (fields_of (number op) ++ tail_of op) (drop 2 op) (both_good (fields_of (number op)) (tail_of op) (fields_good (number op)) (tail_good op)) (bytes_drop 2 op all)

-- ---- members

names_behind : (name : List ℕ) → codes ",\"" ++ name ++ codes "Text\":" ≡ codes ",\"" ++ (name ++ codes "Text") ++ codes "\":"
names_behind name = ap (λ (l : List ℕ). 44 ∷ 34 ∷ l) (sym (append_assoc name (codes "Text") (codes "\":")))

numbers_joined : (ns : List ℕ) → flat_map behind_comma ns ≡ flat_map (λ other. codes "," ++ other) (map decimal ns)
numbers_joined [] = refl
numbers_joined (n ∷ ns) = ap (λ (l : List ℕ). behind_comma n ++ l) (numbers_joined ns)

numbers_are : (ns : List ℕ) → numbers_text ns ≡ joined (map decimal ns)
numbers_are [] = refl
numbers_are (n ∷ ns) = ap (λ (l : List ℕ). decimal n ++ l) (numbers_joined ns)

numbers_told : (ns : List ℕ) → AreSmall ns → TellValues (map decimal ns)
numbers_told [] small = tell_none
numbers_told (n ∷ ns) small = tell_more (tells_number n small.0) (numbers_told ns small.1)

value_told : (v : Value) → IsGoodValue v → TellsValue (value_json v)
value_told (a_number n) good = tells_number n good
value_told (some_bits n) good = tells_number n good
value_told (an_id n) good = tells_number n good
value_told (a_guid_of bytes) good = tells_word (guid_text true bytes) (guid_word true bytes (are_bytes bytes good))
value_told (some_bytes bytes) good = tells_word (digits_of false bytes) (bytes_word false bytes (are_bytes bytes good))
value_told (a_name bytes) good = tells_text bytes (bytes_are_text bytes (are_bytes bytes good))
value_told (some_numbers ns) good =
    subst (λ (l : List ℕ). TellsValue (codes "[" ++ l ++ codes "]")) (sym (numbers_are ns)) (tells_array (numbers_told ns good))

-- what is shown of string ids is characters
abbrev pub Shows : List Spoken → Type 0
Shows spoken = (id : ℕ) → id < 2 ^ 64 → all_scalars (shown spoken (Some 0) id) ≡ true

said_told : (spoken : List Spoken) (name : List ℕ) (v : Value) → Shows spoken → IsWord name → IsGoodValue v → TellsFacts (text_json spoken name v)
said_told spoken name (an_id id) shows plain small =
    cond_both (id == 0) [] (codes ",\"" ++ name ++ codes "Text\":" ++ said_text spoken id) TellsFacts (λ _. tells_nothing)
    (λ _. subst (λ (l : List ℕ). TellsFacts (l ++ said_text spoken id)) (sym (names_behind name))
    (tells_member (name ++ codes "Text") (word_behind name (codes "Text") plain refl) (tells_text (shown spoken (Some 0) id) (shows id small))))
said_told spoken name (a_number n) shows plain good = tells_nothing
said_told spoken name (some_bits n) shows plain good = tells_nothing
said_told spoken name (a_guid_of bytes) shows plain good = tells_nothing
said_told spoken name (some_bytes bytes) shows plain good = tells_nothing
said_told spoken name (a_name bytes) shows plain good = tells_nothing
said_told spoken name (some_numbers ns) shows plain good = tells_nothing

later_told : (spoken : List Spoken) (fs : List Fact) → Shows spoken → GoodFacts fs → TellsFacts (flat_map (λ g. codes "," ++ fact_json spoken g) fs)
later_told spoken [] shows good = tells_nothing
later_told spoken (f ∷ fs) shows good =
    tells_behind (tells_behind (tells_member f.name good.0.0 (value_told f.value good.0.1)) (said_told spoken f.name f.value shows good.0.0 good.0.1))
    (later_told spoken fs shows good.1)

inner_told : (spoken : List Spoken) (fs : List Fact) → Shows spoken → GoodFacts fs → TellsValue (inner_object (facts_json spoken fs))
inner_told spoken [] shows good = tells_value (object no_facts) tt
inner_told spoken (f ∷ fs) shows good =
    let first = first_member f.name (value_json f.value) in
    let said = text_json spoken f.name f.value in
    let others = flat_map (λ g. codes "," ++ fact_json spoken g) fs in
    subst (λ (l : List ℕ). TellsValue (inner_object l)) (sym (append_assoc first said others))
    (tells_inner f.name good.0.0 (value_told f.value good.0.1) (tells_behind (said_told spoken f.name f.value shows good.0.0 good.0.1) (later_told spoken fs shows good.1)))

-- ---- objects

hex_word : (b : ℕ) → b < 256 → IsWord (hex_of b)
hex_word b small = bytes_word false (b ∷ []) (are_bytes (b ∷ []) (small, tt))

pub name_word : (k : ℕ) → k < 256 → IsWord (name_or_number k)
name_word k small =
    cond_both (length (opcode_name k) == 0) (codes "0x" ++ hex_of k) (opcode_name k) IsWord (λ _. word_behind (codes "0x") (hex_of k) refl (hex_word k small)) (λ _. opcode_word k)

pub opcode_back : (s : Setting) (place depth : ℕ) (op : List ℕ) → Shows s.spoken → place < 2 ^ 64 → s.base + place < 2 ^ 64 → depth < 2 ^ 64 → AreBytes op
    → IsReadBack (codes "opcode") (opcode_object s place depth op)
opcode_back s place depth op shows small byte deep are =
    let all = all_bytes op are in
    read_back (codes "opcode") refl
    (tells_behind
    (tells_behind
    (tells_behind
    (tells_behind (tells_behind (tells_member (codes "at") refl (tells_number place small)) (tells_member (codes "byte") refl (tells_number (s.base + place) byte)))
    (tells_member (codes "depth") refl (tells_number depth deep)))
    (tells_member (codes "name") refl (tells_word (name_or_number (number op)) (name_word (number op) (are 0)))))
    (tells_member (codes "fields") refl (inner_told s.spoken (opcode_facts op) shows (opcode_facts_good op all))))
    (tells_member (codes "bytes") refl (tells_word (digits_of false op) (bytes_word false op are))))

-- ---- what the first string package of a list says

said_spoken : (faults : List chapter.Fault) (p : Package) → Bytes p.bytes → AreSpoken (said_without faults p)
said_spoken [] p all = said_good (p ∷ []) (all, tt)
said_spoken (fault ∷ faults) p all = no_spoken

first_spoken : (ps : List Package) → HaveBytes ps → AreSpoken (said_by ps)
first_spoken [] all = no_spoken
first_spoken (p ∷ ps) all = said_spoken (chapter.string_package_faults p) p all.0

pub first_shows : (list : List ℕ) → AreBytes list → Shows (said_first list)
first_shows list are id small = shown_by (said_first list) (Some 0) id (first_spoken (packages_with STRINGS list) (strings_have_bytes list are)) small
