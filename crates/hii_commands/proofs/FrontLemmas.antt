-- The digits at the front of a text, and the commands that set a question and that ask why, read by them.
use Rattle.std.proofs.Common.{◌≡◌, ◌==◌, ◌&&◌, ℕ, ℤ, pos, suc, ◌+◌, ◌-◌, ◌^◌, ◌<◌, ◌≤◌, Bool, true, false, List, [], ◌∷◌, ◌++◌, length, take, drop, get_or, Option, Some, None, codes, nat_lt, nat_le, if◌then◌else◌, option_map, refl, sym, ap, subst, ◌∙◌, arith, inl, inr, ltb, leb, append-nil, get_or-take}
use Rattle.std.specs.Char.{digit_value, is_ascii_digit}
use Rattle.std.specs.Int.{IsInRange}
use Rattle.std.specs.Str.{bytes_eq}
use Rattle.std.specs.Str.Parse.{AllDigits, digits_value}
use Rattle.std.proofs.lemmas.Bool.{and_parts, and_from, and_left, and_right, both_ways, cases_Bool, cases_lt, cond-true, cond-false, eqb-true, ne_eqb, leb-true, le-leb, lt-leb, lt-ltb, le-ltb}
use Rattle.std.proofs.lemmas.Int.Digits.{digits_value-lt}
use Rattle.std.proofs.lemmas.List.{take-append-drop, length-take-le, length-drop, drop_more}
use Rattle.std.proofs.lemmas.List.Folds.{length-prefix_len}
use Rattle.std.proofs.lemmas.List.Sums.{prefix_len_is, prefix_len_stops, take_while-cons}
use Rattle.std.proofs.lemmas.Slice.Eq.{bytes_eq-Decides}
use Rattle.std.proofs.lemmas.Str.{digit_value_digit}
use Rattle.std.proofs.lemmas.Str.Parse.{digit_at, digit_from_value}
use Rattle.std.proofs.Math.Nat.{pow-le-pow_right}
use Rattle.browser_rules.specs.Script.{Command, Set, Why}
use Rattle.hii_bytes.specs.Digits.{IsNumber}
use Rattle.hii_bytes.proofs.DigitLemmas.{number_below-from, number_below-none}
use Rattle.hii_commands.specs.code.Reading.{begins_with, command_in, cut_word, digit_count, front_digits_in, front_question_in, question_command, question_in, set_in, spaced_in, value_in, why_in, words_in}
use Rattle.hii_commands.specs.laws.Lines.{Lacks}
use Rattle.hii_commands.proofs.WordLemmas.{Lacks-digits, begins, cut_word-alone, cut_word-spaced, cut_word-together, together}

-- ---- digits

in_ascii : (b : ℕ) → IsInRange 48 57 b → is_ascii_digit b ≡ true
in_ascii b h = and_from (leb 48 b) (leb b 57) (le-leb 48 b h.0) (le-leb b 57 h.1)

-- a digit, and the number that it is
pub digit_is : (b : ℕ) → is_ascii_digit b ≡ true → (digit_value b < 10) × (digit_value b + 48 ≡ b)
digit_is b e =
    let p = and_parts (leb 48 b) (leb b 57) e in
    let high = leb-true b 57 p.1 in
    let value = digit_value_digit b (leb-true 48 b p.0, high) in
    (omega (arith, value, high), value)

-- so few digits write a small number
pub few_digits : (text : List ℕ) (count : ℕ) → count ≤ length text → count ≤ 4 → AllDigits 10 (take count text) → digits_value 10 (take count text) < 10000
few_digits text count inside few all =
    let size = length-take-le count text inside in
    let short : length (take count text) ≤ 4 = omega (arith, size, few) in
    let power : 10 ^ length (take count text) ≤ 10 ^ 4 = pow-le-pow_right {n = 10} (omega arith) short in
    omega (arith, digits_value-lt 10 (take count text) all, power)

each : (text : List ℕ) (count : ℕ) → count ≤ length text → AllDigits 10 (take count text) → (k : ℕ) → k < count → is_ascii_digit (get_or text k 0) ≡ true
each text count inside all k below =
    let size = length-take-le count text inside in
    let digit = digit_at (take count text) k all (omega (arith, size, below)) in
    ap is_ascii_digit (sym (get_or-take count text k 0 below)) ∙ in_ascii (get_or (take count text) k 0) digit

-- Digits up to the end of a text, or up to a byte that is none, are all those at its front.
pub digits_end : (text : List ℕ) (count : ℕ) → count ≤ length text → AllDigits 10 (take count text) → (count < length text → is_ascii_digit (get_or text count 0) ≡ false) → digit_count text ≡ count
digits_end text count inside all ends = prefix_len_is is_ascii_digit text count 0 inside (each text count inside all) ends

digits_at_least : (text : List ℕ) (count : ℕ) → count ≤ length text → AllDigits 10 (take count text) → count ≤ digit_count text
digits_at_least text count inside all = elim (cases_lt (digit_count text) count) [
  | inl fewer ↦
      let stops = prefix_len_stops is_ascii_digit text 0 (omega (arith, fewer, inside)) in
      absurd (both_ways (is_ascii_digit (get_or text (digit_count text) 0)) stops (each text count inside all (digit_count text) fewer))
  | inr enough ↦ enough
]

-- a count and a number that were found
abbrev pub found_digits : ℕ → ℕ → Option (ℕ × ℕ)
found_digits count number = Some (count, number)

-- the digits that were read are all, and not too many
pub digits_found : (text : List ℕ) (count number : ℕ) → count ≤ length text → count ≤ 5 → AllDigits 10 (take count text) → number ≡ digits_value 10 (take count text)
    → (count < length text → is_ascii_digit (get_or text count 0) ≡ false) → found_digits count number ≡ front_digits_in text
digits_found text count number inside few all value ends =
    let e = digits_end text count inside all ends in
    ap (found_digits count) value
    ∙ sym (cond-true (leb count 5) (found_digits count (digits_value 10 (take count text))) None (le-leb count 5 few))
    ∙ ap (λ (n : ℕ). if nat_le n 5 then found_digits n (digits_value 10 (take n text)) else None) (sym e)

-- there are too many
pub digits_many : (text : List ℕ) (count : ℕ) → 5 < count → count ≤ length text → AllDigits 10 (take count text) → None ≡ front_digits_in text
digits_many text count many inside all =
    let n = digit_count text in
    let enough : count ≤ n = digits_at_least text count inside all in
    sym (cond-false (leb n 5) (found_digits n (digits_value 10 (take n text))) None (lt-leb n 5 (omega (arith, enough, many))))

-- the digits at the front of a text are digits
front_all : (text : List ℕ) → AllDigits 10 (take (digit_count text) text)
front_all [] = tt
front_all (b ∷ text) = elim (cases_Bool (is_ascii_digit b)) [
  | inl is ↦ subst (AllDigits 10) (sym (take_while-cons is_ascii_digit b text ∙ cond-true (is_ascii_digit b) _ _ is)) ((digit_is b is).0, front_all text)
  | inr other ↦ subst (AllDigits 10) (sym (take_while-cons is_ascii_digit b text ∙ cond-false (is_ascii_digit b) _ _ other)) tt
]

-- ---- the id of a question

-- an id with what stands behind it
abbrev pub with_rest : List ℕ → Option ℕ → Option (ℕ × List ℕ)
with_rest rest question = option_map (λ q. (q, rest)) question

-- the id that a number of so many digits is, and what stands behind them
abbrev pub id_of_digits : List ℕ → Option (ℕ × ℕ) → Option (ℕ × List ℕ)
id_of_digits text None = None
id_of_digits text (Some (count, number)) = if nat_lt 0 count && nat_lt number 65536 then with_rest (drop count text) (Some number) else None

-- digits that write no id
no_id : (front rest : List ℕ) → ((n : ℕ) → IsNumber 10 5 65536 front n → ⊥) → with_rest rest (question_in front) ≡ None
no_id front rest none = ap (with_rest rest) (sym (number_below-none 65536 10 5 front none))

few_id : (front rest : List ℕ) (n v : ℕ) → length front ≡ n → digits_value 10 front ≡ v → AllDigits 10 front → n ≤ 5
    → with_rest rest (question_in front) ≡ (if nat_lt 0 n && nat_lt v 65536 then with_rest rest (Some v) else None)
few_id front rest n v size value all few = elim (cases_lt 0 n) [
  | inl some ↦ elim (cases_lt v 65536) [
    | inl small ↦
        ap (with_rest rest) (number_below-from 65536 10 5 front v (record { digits = (omega (arith, some, size), all); few = omega (arith, few, size); value = value; small = small }))
        ∙ sym (cond-true (ltb 0 n && ltb v 65536) (with_rest rest (Some v)) None (and_from (ltb 0 n) (ltb v 65536) (lt-ltb 0 n some) (lt-ltb v 65536 small)))
    | inr large ↦
        no_id front rest (λ m is. omega (arith, large, value, is.value, is.small))
        ∙ sym (cond-false (ltb 0 n && ltb v 65536) (with_rest rest (Some v)) None (and_right (ltb 0 n) (ltb v 65536) (le-ltb v 65536 large)))
  ]
  | inr none ↦
      no_id front rest (λ m is. omega (arith, none, size, is.digits.0))
      ∙ sym (cond-false (ltb 0 n && ltb v 65536) (with_rest rest (Some v)) None (and_left (ltb 0 n) (ltb v 65536) (le-ltb 0 n none)))
]

-- the id is that of the digits at the front
pub id_by_digits : (text : List ℕ) → front_question_in text ≡ id_of_digits text (front_digits_in text)
id_by_digits text =
    let n = digit_count text in
    let front = take n text in
    let v = digits_value 10 front in
    let size : length front ≡ n = length-prefix_len is_ascii_digit text in
    elim (cases_lt 5 n) [
      | inl many ↦
          no_id front (drop n text) (λ m is. omega (arith, many, size, is.few))
          ∙ ap (id_of_digits text) (sym (cond-false (leb n 5) (found_digits n v) None (lt-leb n 5 many)))
      | inr few ↦
          few_id front (drop n text) n v size refl (front_all text) few
          ∙ ap (id_of_digits text) (sym (cond-true (leb n 5) (found_digits n v) None (le-leb n 5 few)))
    ]

-- the id and what stands behind it, where a test tells whether there is one
pub id_found : (text : List ℕ) (count number : ℕ) (is : Bool) → found_digits count number ≡ front_digits_in text → (ltb 0 count && ltb number 65536) ≡ is
    → (if is then with_rest (drop count text) (Some number) else None) ≡ front_question_in text
id_found text count number is e test =
    ap (λ (b : Bool). if b then with_rest (drop count text) (Some number) else None) (sym test) ∙ ap (id_of_digits text) e ∙ sym (id_by_digits text)

-- ---- the value

digit_alone : (b : ℕ) → is_ascii_digit b ≡ true → value_in (b ∷ []) ≡ Some (pos (b - 48))
digit_alone b e =
    let d = digit_is b e in
    let small : digit_value b < 10 = d.0 in
    let value : digit_value b + 48 ≡ b = d.1 in
    cond-false (begins_with (b ∷ []) (codes "-")) _ _ (and_left (b == 45) true (ne_eqb b 45 (λ same. omega (arith, same, value))))
    ∙ cond-false (begins_with (b ∷ []) (codes "0x")) _ _ (and_right (b == 48) false refl)
    ∙ ap (option_map pos) (number_below-from (2 ^ 64) 10 20 (b ∷ []) (b - 48) (record { digits = (omega arith, (small, tt)); few = omega arith; value = omega (arith, value); small = omega (arith, small, value) }))

-- the value of one digit
pub one_digit : (text : List ℕ) → length text ≡ 1 → is_ascii_digit (get_or text 0 0) ≡ true → value_in text ≡ Some (pos (get_or text 0 0 - 48))
one_digit [] size digit = absurd (omega (arith, size))
one_digit (b ∷ []) size digit = digit_alone b digit
one_digit (b ∷ d ∷ text) size digit = absurd (omega (arith, size))

-- ---- the command

-- the command of `set` over the id and what stands behind it
abbrev pub set_behind : Option (ℕ × List ℕ) → Option Command
set_behind None = None
set_behind (Some (question, rest)) =
    if begins_with rest (codes " ") then option_map (Set question) (value_in (drop 1 rest)) else None

cut_word-front : (word rest : List ℕ) → Lacks 32 word → cut_word (word ++ rest) ≡ (word ++ (cut_word rest).0, (cut_word rest).1)
cut_word-front [] rest h = refl
cut_word-front (b ∷ word) rest h =
    cond-false (b == 32) _ _ (ne_eqb b 32 h.0) ∙ ap (λ (p : List ℕ × Option (List ℕ)). (b ∷ p.0, p.1)) (cut_word-front word rest h.1)

-- more bytes in front of a word
abbrev joined_to : List ℕ → List ℕ × Option (List ℕ) → List ℕ × Option (List ℕ)
joined_to front p = (front ++ p.0, p.1)

cut_other : (b : ℕ) (text : List ℕ) → (b == 32) ≡ false → cut_word (b ∷ text) ≡ (b ∷ (cut_word text).0, (cut_word text).1)
cut_other b text other = cond-false (b == 32) _ _ other

digit_within : (front : List ℕ) (b : ℕ) (rest : List ℕ) → AllDigits 10 (front ++ b ∷ rest) → digit_value b < 10
digit_within [] b rest h = h.0
digit_within (x ∷ front) b rest h = digit_within front b rest h.1

-- a word with a byte that is no digit is no id
no_question : (front : List ℕ) (b : ℕ) (rest : List ℕ) → is_ascii_digit b ≡ false → question_in (front ++ b ∷ rest) ≡ None
no_question front b rest other =
    sym (number_below-none 65536 10 5 (front ++ b ∷ rest) (λ n is. both_ways (is_ascii_digit b) other (in_ascii b (digit_from_value b (digit_within front b rest is.digits.1)))))

nothing_set : (word : List ℕ) (rest : Option (List ℕ)) → question_in word ≡ None → set_in (word, rest) ≡ None
nothing_set word None e = refl
nothing_set word (Some value) e = ap (λ (question : Option ℕ). question_command Set question (value_in value)) e

without_value : (question : Option ℕ) → set_behind (with_rest [] question) ≡ None
without_value None = refl
without_value (Some q) = refl

with_value : (question : Option ℕ) (value : List ℕ) → question_command Set question (value_in value) ≡ set_behind (with_rest (32 ∷ value) question)
with_value None value = refl
with_value (Some q) value = refl

unspaced : (question : Option ℕ) (b : ℕ) (rest : List ℕ) → (b == 32) ≡ false → set_behind (with_rest (b ∷ rest) question) ≡ None
unspaced None b rest other = refl
unspaced (Some q) b rest other = cond-false (begins_with (b ∷ rest) (codes " ")) (option_map (Set q) (value_in rest)) None (and_left (b == 32) true other)

set_parts : (front rest : List ℕ) → AllDigits 10 front → ((b : ℕ) (behind : List ℕ) → rest ≡ b ∷ behind → is_ascii_digit b ≡ false)
    → set_in (cut_word (front ++ rest)) ≡ set_behind (with_rest rest (question_in front))
set_parts front [] all ends =
    ap (λ (l : List ℕ). set_in (cut_word l)) (append-nil front) ∙ ap set_in (cut_word-alone front (Lacks-digits front all)) ∙ sym (without_value (question_in front))
set_parts front (b ∷ behind) all ends = elim (cases_Bool (b == 32)) [
  | inl space ↦
      let is = eqb-true b 32 space in
      ap (λ (x : ℕ). set_in (cut_word (front ++ x ∷ behind))) is
      ∙ ap set_in (cut_word-spaced front behind (Lacks-digits front all))
      ∙ with_value (question_in front) behind
      ∙ ap (λ (x : ℕ). set_behind (with_rest (x ∷ behind) (question_in front))) (sym is)
  | inr other ↦
      let cut : cut_word (front ++ b ∷ behind) ≡ (front ++ b ∷ (cut_word behind).0, (cut_word behind).1) =
      cut_word-front front (b ∷ behind) (Lacks-digits front all) ∙ ap (joined_to front) (cut_other b behind other) in
      ap set_in cut
      ∙ nothing_set (front ++ b ∷ (cut_word behind).0) (cut_word behind).1 (no_question front b (cut_word behind).0 (ends b behind refl))
      ∙ sym (unspaced (question_in front) b behind other)
]

-- what stands behind the digits at the front begins with none
ends_digits : (text : List ℕ) (b : ℕ) (behind : List ℕ) → drop (digit_count text) text ≡ b ∷ behind → is_ascii_digit b ≡ false
ends_digits text b behind e =
    let n = digit_count text in
    let size : length text - n ≡ suc (length behind) = sym (length-drop n text) ∙ ap (length {A = ℕ}) e in
    let inside : n < length text = omega (arith, size) in
    let first : get_or text n 0 ∷ drop (n + 1) text ≡ b ∷ behind = sym (drop_more text n 0 inside) ∙ e in
    let same : get_or text n 0 ≡ b = cc in
    ap is_ascii_digit (sym same) ∙ prefix_len_stops is_ascii_digit text 0 inside

pub set_by_front : (text : List ℕ) → set_in (cut_word text) ≡ set_behind (front_question_in text)
set_by_front text =
    let n = digit_count text in
    ap (λ (l : List ℕ). set_in (cut_word l)) (sym (take-append-drop n text)) ∙ set_parts (take n text) (drop n text) (front_all text) (ends_digits text)

pub set_unspaced : (text rest : List ℕ) (question : ℕ) → with_rest rest (Some question) ≡ front_question_in text → begins_with rest (codes " ") ≡ false → None ≡ set_in (cut_word text)
set_unspaced text rest question e other =
    sym (cond-false (begins_with rest (codes " ")) (option_map (Set question) (value_in (drop 1 rest))) None other) ∙ ap set_behind e ∙ sym (set_by_front text)

pub set_spaced : (text rest : List ℕ) (question : ℕ) (value : Option ℤ) → with_rest rest (Some question) ≡ front_question_in text → begins_with rest (codes " ") ≡ true → value ≡ value_in (drop 1 rest)
    → option_map (Set question) value ≡ set_in (cut_word text)
set_spaced text rest question value e space is =
    ap (option_map (Set question)) is
    ∙ sym (cond-true (begins_with rest (codes " ")) (option_map (Set question) (value_in (drop 1 rest))) None space) ∙ ap set_behind e ∙ sym (set_by_front text)

-- a text that begins with `set` and a space
pub set_text : (text rest : List ℕ) → begins_with text (codes "set ") ≡ true → rest ≡ drop 4 text → set_in (cut_word rest) ≡ command_in text
set_text text rest begun is = ap (λ (l : List ℕ). set_in (cut_word l)) is ∙ sym (ap command_in (begins text (codes "set ") begun))

-- a text whose first word is `set` begins with it and a space
other_word : (text word rest : List ℕ) → begins_with text (codes "set ") ≡ false → cut_word text ≡ (word, Some rest) → bytes_eq word (codes "set") ≡ false
other_word text word rest other cut = elim (cases_Bool (bytes_eq word (codes "set"))) [
  | inl is ↦
      let whole : text ≡ codes "set" ++ 32 ∷ rest = sym (cut_word-together text) ∙ ap together cut ∙ ap (λ (w : List ℕ). w ++ 32 ∷ rest) ((bytes_eq-Decides word (codes "set")).0 is) in
      absurd (both_ways (begins_with text (codes "set ")) other (ap (λ (t : List ℕ). begins_with t (codes "set ")) whole))
  | inr differs ↦ differs
]

pub spaced_text : (text word rest : List ℕ) → begins_with text (codes "set ") ≡ false → cut_word text ≡ (word, Some rest) → spaced_in word rest ≡ command_in text
spaced_text text word rest other cut =
    sym (cond-false (bytes_eq word (codes "set")) (set_in (cut_word rest)) (spaced_in word rest) (other_word text word rest other cut)) ∙ ap words_in (sym cut)

-- the command of `why` over the id and what stands behind it
abbrev pub why_behind : Option (ℕ × List ℕ) → Option Command
why_behind None = None
why_behind (Some (question, [])) = Some (Why question)
why_behind (Some (question, b ∷ rest)) = None

why_alone : (question : Option ℕ) → option_map Why question ≡ why_behind (with_rest [] question)
why_alone None = refl
why_alone (Some q) = refl

why_followed : (question : Option ℕ) (b : ℕ) (rest : List ℕ) → why_behind (with_rest (b ∷ rest) question) ≡ None
why_followed None b rest = refl
why_followed (Some q) b rest = refl

why_parts : (front rest : List ℕ) → ((b : ℕ) (behind : List ℕ) → rest ≡ b ∷ behind → is_ascii_digit b ≡ false)
    → why_in (front ++ rest) ≡ why_behind (with_rest rest (question_in front))
why_parts front [] ends = ap why_in (append-nil front) ∙ why_alone (question_in front)
why_parts front (b ∷ behind) ends =
    ap (option_map Why) (no_question front b behind (ends b behind refl)) ∙ sym (why_followed (question_in front) b behind)

pub why_by_front : (text : List ℕ) → why_in text ≡ why_behind (front_question_in text)
why_by_front text =
    let n = digit_count text in
    ap why_in (sym (take-append-drop n text)) ∙ why_parts (take n text) (drop n text) (ends_digits text)

pub why_more : (text rest : List ℕ) (question : ℕ) → with_rest rest (Some question) ≡ front_question_in text → 0 < length rest → None ≡ why_in text
why_more text [] question e some = absurd (omega (arith, some))
why_more text (b ∷ rest) question e some = ap why_behind e ∙ sym (why_by_front text)

-- a text that begins with `why` and a space
pub why_text : (text rest : List ℕ) → begins_with text (codes "why ") ≡ true → rest ≡ drop 4 text → why_in rest ≡ command_in text
why_text text rest begun is = ap why_in is ∙ sym (ap command_in (begins text (codes "why ") begun))
