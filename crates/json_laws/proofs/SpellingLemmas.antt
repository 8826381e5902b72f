-- The characters of values, in UTF-8, are what is written.
use Rattle.std.proofs.Common.{◌≡◌, ◌==◌, ◌||◌, ℤ, pos, negsuc, nat_abs, suc, ℕ, ◌+◌, ◌-◌, ◌/◌, ◌%◌, ◌^◌, ◌<◌, nat_lt, Bool, true, false, cond, List, [], ◌∷◌, ◌++◌, decimal, codes, refl, sym, ap₂, subst, ◌∙◌, arith, append_assoc, append-nil, inl, inr}
use Rattle.std.specs.Char.{IsScalar}
use Rattle.std.specs.Fmt.{digit_glyph, signed_decimal}
use Rattle.std.specs.List.{flat_map}
use Rattle.std.specs.Str.{all_scalars}
use Rattle.std.specs.Str.Parse.{AllDigits}
use Rattle.std.proofs.lemmas.Bool.{and_from, and_parts, cases_lt, lt-ltb, le-ltb, ltb-true}
use Rattle.std.proofs.lemmas.Fmt.{decimal_is_IsNumeral}
use Rattle.std.proofs.lemmas.Str.{encode_ascii, encodes-append}
use Rattle.std.proofs.lemmas.Str.Parse.{digit_from_value}
use Rattle.std.proofs.str.Laws.{scalars-append}
use lib.Utf8.{encode, encodes, low_scalar, scalar}
use Rattle.audit_text.specs.Texts.{is_unsafe}
use Rattle.audit_json.specs.Json.{escaped, json_text, unit_escape}
use Rattle.audit_json.specs.Objects.{joined}
use Rattle.json_laws.specs.Reading.{Value, number, string, truth, array, object, Items, no_items, item, Facts, no_facts, fact}
use Rattle.json_laws.specs.laws.Written.{CanBeTold, EachCanBeTold, IsWord, FactsCanBeTold, each_written, inner_members, told, written}
use Rattle.json_laws.proofs.TextLemmas.{scalar_bound, spelled_by, spelled_chars}
use Rattle.json_laws.proofs.ValueLemmas.{first_members, first_values, further_members, further_values, spelled, spelled_text}
use Rattle.json_laws.proofs.WordLemmas.{word_escaped, word_is_text}

-- the bytes are these characters in UTF-8
pub record Spells (cs bs : List ℕ) : Type 0 where
  pub scalars : all_scalars cs ≡ true
  pub same : encodes cs ≡ bs

pub spelled_behind : {cs bs ds es : List ℕ} → Spells cs bs → Spells ds es → Spells (cs ++ ds) (bs ++ es)
spelled_behind {cs} {bs} {ds} {es} a b = record {
  scalars = scalars-append cs ds a.scalars b.scalars;
  same = encodes-append cs ds ∙ ap₂ (λ (x y : List ℕ). x ++ y) a.same b.same;
}

one_char : (c : ℕ) → IsScalar c → Spells (c ∷ []) (encode c)
one_char c s = record { scalars = and_from _ _ s refl; same = append-nil (encode c) }

pub low_char : (c : ℕ) → c < 128 → Spells (c ∷ []) (c ∷ [])
low_char c low = subst (Spells (c ∷ [])) (encode_ascii c low) (one_char c (low_scalar c (omega arith)))

-- an ASCII character before others
low_before : {cs bs : List ℕ} (c : ℕ) → c < 128 → Spells cs bs → Spells (c ∷ cs) (c ∷ bs)
low_before {cs} {bs} c low s = spelled_behind (low_char c low) s

nothing : Spells [] []
nothing = record { scalars = refl; same = refl }

-- ---- characters

glyph_low : (d : ℕ) → d < 16 → digit_glyph false d < 128
glyph_low d h = elim (cases_lt d 10) [
  | inl less ↦ rw (lt-ltb d 10 less) (omega arith)
  | inr more ↦ rw (le-ltb d 10 more) (omega arith)
]

low_escape : (u : ℕ) → u < 0x10000 → Spells (unit_escape u) (unit_escape u)
low_escape u h =
    low_before 92 (omega arith) (low_before 117 (omega arith) (low_before _ (glyph_low (u / 256 / 16) (omega (arith, h))) (low_before _ (glyph_low (u / 256 % 16) (omega arith))
    (low_before _ (glyph_low (u % 256 / 16) (omega arith)) (low_before _ (glyph_low (u % 256 % 16) (omega arith)) nothing)))))

char_spelled : (c : ℕ) (special unsafe small : Bool) → IsScalar c → nat_lt c 0x10000 ≡ small
    → Spells (spelled_by special unsafe small c)
    (cond special (codes "\\" ++ encode c)
    (cond unsafe (cond small (unit_escape c) (unit_escape (0xD800 + (c - 0x10000) / 0x400) ++ unit_escape (0xDC00 + (c - 0x10000) % 0x400))) (encode c)))
char_spelled c true unsafe small s _ = low_before 92 (omega arith) (one_char c s)
char_spelled c false true true s small = low_escape c (ltb-true c 0x10000 small)
char_spelled c false true false s _ =
    let bound : c < 0x110000 = scalar_bound c s in
    spelled_behind (low_escape (0xD800 + (c - 0x10000) / 0x400) (omega arith)) (low_escape (0xDC00 + (c - 0x10000) % 0x400) (omega arith))
char_spelled c false false small s _ = one_char c s

chars_spelled : (cs : List ℕ) → all_scalars cs ≡ true → Spells (spelled_chars cs) (escaped cs)
chars_spelled [] s = nothing
chars_spelled (c ∷ cs) s =
    let p = and_parts (scalar c) (all_scalars cs) s in
    spelled_behind (char_spelled c (c == 34 || c == 92) (is_unsafe c) (nat_lt c 0x10000) p.0 refl) (chars_spelled cs p.1)

text_spelled : (cs : List ℕ) → all_scalars cs ≡ true → Spells (spelled_text cs) (json_text cs)
text_spelled cs s = low_before 34 (omega arith) (spelled_behind (chars_spelled cs s) (low_char 34 (omega arith)))

name_spelled : (w : List ℕ) → IsWord w → Spells (spelled_text w) (34 ∷ (w ++ 34 ∷ []))
name_spelled w plain = subst (λ (l : List ℕ). Spells (spelled_text w) (34 ∷ (l ++ 34 ∷ []))) (word_escaped w plain) (text_spelled w (word_is_text w plain))

-- ---- values

digits_spelled : (ds : List ℕ) → AllDigits 10 ds → Spells ds ds
digits_spelled [] digits = nothing
digits_spelled (d ∷ ds) digits = let range = digit_from_value d digits.0 in low_before d (omega arith) (digits_spelled ds digits.1)

number_spelled : (z : ℤ) → nat_abs z < 2 ^ 64 → Spells (signed_decimal z) (signed_decimal z)
number_spelled (pos n) small = digits_spelled (decimal n) (decimal_is_IsNumeral n small).0.1
number_spelled (negsuc n) small = low_before 45 (omega arith) (digits_spelled (decimal (suc n)) (decimal_is_IsNumeral (suc n) small).0.1)

name_bytes : (key one others : List ℕ) → ((key ++ 34 ∷ 58 ∷ []) ++ one) ++ others ≡ (key ++ 34 ∷ []) ++ 58 ∷ (one ++ others)
name_bytes key one others = simp append_assoc

mutual
  pub value_spelled : (v : Value) → CanBeTold v → Spells (spelled v) (written v)
  value_spelled (number n) can = number_spelled n can
  value_spelled (string characters) can = text_spelled characters can
  value_spelled truth can =
      low_before 116 (omega arith) (low_before 114 (omega arith) (low_before 117 (omega arith) (low_before 101 (omega arith) nothing)))
  value_spelled (array values) can = low_before 91 (omega arith) (spelled_behind (values_spelled values can) (low_char 93 (omega arith)))
  value_spelled (object members) can = low_before 123 (omega arith) (spelled_behind (members_spelled members can) (low_char 125 (omega arith)))

  values_spelled : (values : Items) → EachCanBeTold values → Spells (first_values values) (joined (each_written values))
  values_spelled no_items can = nothing
  values_spelled (item v values) can = spelled_behind (value_spelled v can.0) (further_spelled values can.1)

  further_spelled : (values : Items) → EachCanBeTold values → Spells (further_values values) (flat_map (λ other. codes "," ++ other) (each_written values))
  further_spelled no_items can = nothing
  further_spelled (item v values) can = low_before 44 (omega arith) (spelled_behind (value_spelled v can.0) (further_spelled values can.1))

  members_spelled : (members : Facts) → FactsCanBeTold members → Spells (first_members members) (inner_members members)
  members_spelled no_facts can = nothing
  members_spelled (fact key v members) can =
      subst (λ (l : List ℕ). Spells (first_members (fact key v members)) (34 ∷ l)) (sym (name_bytes key (written v) (told members)))
      (spelled_behind (name_spelled key can.0) (low_before 58 (omega arith) (spelled_behind (value_spelled v can.1) (others_spelled members can.2))))

  others_spelled : (members : Facts) → FactsCanBeTold members → Spells (further_members members) (told members)
  others_spelled no_facts can = nothing
  others_spelled (fact key v members) can =
      subst (λ (l : List ℕ). Spells (further_members (fact key v members)) (44 ∷ 34 ∷ l)) (sym (name_bytes key (written v) (told members)))
      (low_before 44 (omega arith) (spelled_behind (name_spelled key can.0) (low_before 58 (omega arith) (spelled_behind (value_spelled v can.1) (others_spelled members can.2)))))
