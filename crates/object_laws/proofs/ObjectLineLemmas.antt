-- Objects stay one line, and so do the lines of `opcodes`, in which texts stand as in objects.
use Rattle.std.proofs.Common.{◌≡◌, ◌==◌, ◌||◌, ℕ, ◌+◌, ◌-◌, ◌*◌, ◌/◌, ◌%◌, ◌<◌, nat_lt, true, false, cond, List, [], ◌∷◌, ◌++◌, decimal, codes, Some, refl, sym, subst, arith, inl, inr}
use Rattle.std.specs.Fmt.{signed_decimal}
use Rattle.std.specs.List.{flat_map}
use Rattle.std.specs.Str.{all_scalars}
use Rattle.std.proofs.lemmas.Bool.{and_parts, cond_both, eqb-true, ltb-true, or_cases}
use Rattle.std.proofs.lemmas.Str.{encode_ascii}
use lib.Utf8.{encode, scalar}
use Rattle.browser_rules.specs.Opcodes.{number as number_of}
use Rattle.browser_rules.specs.Strings.{Spoken, shown}
use Rattle.hii_bytes.specs.Numbers.{AreBytes}
use Rattle.hii_bytes.specs.Texts.{hex_of}
use Rattle.audit_text.specs.Texts.{digits_of, guid_text, hex_text, is_unsafe}
use Rattle.audit_json.specs.Json.{escape, escaped, json_char, json_text, unit_escape}
use Rattle.audit_json.specs.Objects.{first_key, joined, member_key, object_kind}
use Rattle.opcode_audit.specs.Facts as facts
use Rattle.opcode_audit.specs.Facts.{Fact, a_guid_of, a_name, a_number, an_id, opcode_facts, some_bits, some_bytes, some_numbers}
use Rattle.opcode_audit.specs.Lines.{Setting, line as opcode_line}
use Rattle.opcode_audit.specs.Words.{behind_comma, fact_text, name_or_number, numbers_text, said_text, value_text}
use Rattle.json_laws.specs.Reading.{Value, number, string, truth, array, object, Items, no_items, item, Facts, no_facts, fact}
use Rattle.json_laws.specs.laws.Telling.{IsReadBack}
use Rattle.json_laws.specs.laws.Written.{CanBeTold, EachCanBeTold, FactsCanBeTold, IsWord, each_written, inner_members, line_of, told, written}
use Rattle.json_laws.proofs.TextLemmas.{scalar_bound}
use Rattle.json_laws.proofs.WordLemmas.{all_bytes, are_bytes, bytes_are_text, bytes_word, decimal_word, guid_word, hexadecimal_word, signed_word}
use Rattle.object_laws.specs.laws.Lines.{IsLine, IsSafe}
use Rattle.object_laws.proofs.LineLemmas.{place_safe}
use Rattle.object_laws.proofs.OpcodeLemmas.{GoodFacts, IsGoodValue, Shows, name_word, opcode_facts_good}
use Rattle.object_laws.proofs.SafeLemmas.{line_closed, line_safe, one_char, printable_safe, safe_behind, safe_nothing, spaces_safe, word_safe}

-- ---- texts between quotation marks

pair_safe : (b : ℕ) → b < 256 → IsSafe (hex_of b)
pair_safe b small = word_safe (hex_of b) (bytes_word false (b ∷ []) (are_bytes (b ∷ []) (small, tt)))

unit_safe : (unit : ℕ) → unit < 65536 → IsSafe (unit_escape unit)
unit_safe unit small =
    safe_behind (safe_behind (printable_safe (codes "\\u") refl) (pair_safe (unit / 256) (omega arith))) (pair_safe (unit % 256) (omega arith))

escape_safe : (c : ℕ) → c < 0x110000 → IsSafe (escape c)
escape_safe c small =
    cond_both (nat_lt c 0x10000) (unit_escape c) (unit_escape (0xD800 + (c - 0x10000) / 0x400) ++ unit_escape (0xDC00 + (c - 0x10000) % 0x400)) IsSafe
    (λ low. unit_safe c (ltb-true c 0x10000 low))
    (λ _. safe_behind (unit_safe (0xD800 + (c - 0x10000) / 0x400) (omega arith)) (unit_safe (0xDC00 + (c - 0x10000) % 0x400) (omega arith)))

mark_safe : (c : ℕ) → (c == 34 || c == 92) ≡ true → IsSafe (codes "\\" ++ encode c)
mark_safe c is =
    elim (or_cases (c == 34) (c == 92) is) [
      | inl quote ↦ subst (λ (d : ℕ). IsSafe (codes "\\" ++ encode d)) (sym (eqb-true c 34 quote)) (subst (λ (l : List ℕ). IsSafe (codes "\\" ++ l)) (sym (encode_ascii 34 (omega arith))) (printable_safe (92 ∷ 34 ∷ []) refl))
      | inr slash ↦ subst (λ (d : ℕ). IsSafe (codes "\\" ++ encode d)) (sym (eqb-true c 92 slash)) (subst (λ (l : List ℕ). IsSafe (codes "\\" ++ l)) (sym (encode_ascii 92 (omega arith))) (printable_safe (92 ∷ 92 ∷ []) refl))
    ]

char_safe : (c : ℕ) → scalar c ≡ true → IsSafe (json_char c)
char_safe c is =
    cond_both (c == 34 || c == 92) (codes "\\" ++ encode c) (cond (is_unsafe c) (escape c) (encode c)) IsSafe (λ mark. mark_safe c mark)
    (λ _. cond_both (is_unsafe c) (escape c) (encode c) IsSafe (λ _. escape_safe c (scalar_bound c is)) (λ safe. one_char c is safe))

escaped_safe : (characters : List ℕ) → all_scalars characters ≡ true → IsSafe (escaped characters)
escaped_safe [] all = safe_nothing
escaped_safe (c ∷ characters) all = let p = and_parts (scalar c) (all_scalars characters) all in safe_behind (char_safe c p.0) (escaped_safe characters p.1)

pub quoted_safe : (characters : List ℕ) → all_scalars characters ≡ true → IsSafe (json_text characters)
quoted_safe characters all = safe_behind (safe_behind (printable_safe (codes "\"") refl) (escaped_safe characters all)) (printable_safe (codes "\"") refl)

-- ---- what is written of facts

key_safe : (key : List ℕ) → IsWord key → IsSafe (member_key key)
key_safe key plain = safe_behind (safe_behind (printable_safe (codes ",\"") refl) (word_safe key plain)) (printable_safe (codes "\":") refl)

first_safe : (key : List ℕ) → IsWord key → IsSafe (first_key key)
first_safe key plain = safe_behind (safe_behind (printable_safe (codes "\"") refl) (word_safe key plain)) (printable_safe (codes "\":") refl)

mutual
  value_written : (v : Value) → CanBeTold v → IsSafe (written v)
  value_written (number n) can = word_safe (signed_decimal n) (signed_word n)
  value_written (string characters) can = quoted_safe characters can
  value_written truth can = word_safe (codes "true") refl
  value_written (array values) can = safe_behind (safe_behind (printable_safe (codes "[") refl) (values_written values can)) (printable_safe (codes "]") refl)
  value_written (object members) can = safe_behind (safe_behind (printable_safe (codes "{") refl) (inner_written members can)) (printable_safe (codes "}") refl)

  values_written : (values : Items) → EachCanBeTold values → IsSafe (joined (each_written values))
  values_written no_items can = safe_nothing
  values_written (item v values) can = safe_behind (value_written v can.0) (further_written values can.1)

  further_written : (values : Items) → EachCanBeTold values → IsSafe (flat_map (λ other. codes "," ++ other) (each_written values))
  further_written no_items can = safe_nothing
  further_written (item v values) can = safe_behind (safe_behind (printable_safe (codes ",") refl) (value_written v can.0)) (further_written values can.1)

  inner_written : (members : Facts) → FactsCanBeTold members → IsSafe (inner_members members)
  inner_written no_facts can = safe_nothing
  inner_written (fact key v members) can = safe_behind (safe_behind (first_safe key can.0) (value_written v can.1)) (facts_written members can.2)

  facts_written : (members : Facts) → FactsCanBeTold members → IsSafe (told members)
  facts_written no_facts can = safe_nothing
  facts_written (fact key v members) can = safe_behind (safe_behind (key_safe key can.0) (value_written v can.1)) (facts_written members can.2)

kind_safe : (kind : List ℕ) → IsWord kind → IsSafe (object_kind kind)
kind_safe kind plain = safe_behind (safe_behind (printable_safe (codes "{\"kind\":\"") refl) (word_safe kind plain)) (printable_safe (codes "\"") refl)

facts_line : (kind : List ℕ) (members : Facts) → IsWord kind → FactsCanBeTold members → IsLine (line_of kind members)
facts_line kind members plain can = line_closed (codes "}") (safe_behind (kind_safe kind plain) (facts_written members can)) (printable_safe (codes "}") refl)

pub object_is_line : (kind line : List ℕ) → IsWord kind → IsReadBack kind line → IsLine line
object_is_line kind line plain read = subst IsLine (sym read.same) (facts_line kind read.facts plain read.good)

-- ---- opcodes

behind_comma_safe : (ns : List ℕ) → IsSafe (flat_map behind_comma ns)
behind_comma_safe [] = safe_nothing
behind_comma_safe (n ∷ ns) = safe_behind (safe_behind (word_safe (codes ",") refl) (word_safe (decimal n) (decimal_word n))) (behind_comma_safe ns)

numbers_safe : (ns : List ℕ) → IsSafe (numbers_text ns)
numbers_safe [] = safe_nothing
numbers_safe (n ∷ ns) = safe_behind (word_safe (decimal n) (decimal_word n)) (behind_comma_safe ns)

value_safe : (spoken : List Spoken) (v : facts.Value) → Shows spoken → IsGoodValue v → IsSafe (value_text spoken v)
value_safe spoken (a_number n) shows good = word_safe (decimal n) (decimal_word n)
value_safe spoken (some_bits n) shows good = safe_behind (word_safe (codes "0x") refl) (word_safe (hex_text n) (hexadecimal_word n))
value_safe spoken (an_id id) shows good =
    safe_behind (word_safe (decimal id) (decimal_word id))
    (cond_both (id == 0) [] (codes " " ++ said_text spoken id) IsSafe (λ _. safe_nothing) (λ _. safe_behind (word_safe (codes " ") refl) (quoted_safe (shown spoken (Some 0) id) (shows id good))))
value_safe spoken (a_guid_of bytes) shows good = word_safe (guid_text true bytes) (guid_word true bytes (are_bytes bytes good))
value_safe spoken (some_bytes bytes) shows good = word_safe (digits_of false bytes) (bytes_word false bytes (are_bytes bytes good))
value_safe spoken (a_name bytes) shows good = quoted_safe bytes (bytes_are_text bytes (are_bytes bytes good))
value_safe spoken (some_numbers ns) shows good = numbers_safe ns

facts_safe : (spoken : List Spoken) (fs : List Fact) → Shows spoken → GoodFacts fs → IsSafe (flat_map (fact_text spoken) fs)
facts_safe spoken [] shows good = safe_nothing
facts_safe spoken (f ∷ fs) shows good =
    safe_behind
    (safe_behind (safe_behind (safe_behind (word_safe (codes " ") refl) (word_safe f.name good.0.0)) (word_safe (codes "=") refl)) (value_safe spoken f.value shows good.0.1))
    (facts_safe spoken fs shows good.1)

pub opcode_line_is_line : (s : Setting) (place depth : ℕ) (op : List ℕ) → Shows s.spoken → AreBytes op → IsLine (opcode_line s place depth op)
opcode_line_is_line s place depth op shows are =
    let space : IsSafe (codes " ") = word_safe (codes " ") refl in
    line_safe
    (safe_behind
    (safe_behind
    (safe_behind
    (safe_behind (safe_behind (safe_behind (safe_behind (place_safe place) space) (place_safe (s.base + place))) space) (spaces_safe (2 * depth)))
    (safe_behind (word_safe (name_or_number (number_of op)) (name_word (number_of op) (are 0))) (facts_safe s.spoken (opcode_facts op) shows (opcode_facts_good op (all_bytes op are)))))
    (word_safe (codes " ; ") refl))
    (word_safe (digits_of false op) (bytes_word false op are)))
