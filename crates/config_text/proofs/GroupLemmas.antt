-- Groups of hex digits, one at a time.
use Rattle.std.proofs.Common.{◌≡◌, ◌==◌, ◌≢◌, ◌⊎◌, ℕ, zero, suc, ◌+◌, ◌-◌, ◌*◌, ◌/◌, ◌%◌, ◌<◌, ◌≤◌, true, List, [], ◌∷◌, ◌++◌, length, take, drop, get_or, refl, sym, ap, ◌∙◌, arith, inl, inr, eq-eqb}
use Rattle.std.specs.Str.Parse.{AllDigits, digits_value}
use Rattle.std.specs.List.{flat_map}
use Rattle.std.proofs.lemmas.Bool.{and_parts, and_from, eqb-true}
use Rattle.hii_bytes.specs.Texts.{hex_of}
use Rattle.config_text.specs.code.Written.{four_digits}
use Rattle.std.proofs.lemmas.List.{drop-drop}
use Rattle.std.proofs.lemmas.Grind.{same_number_lists}
use Rattle.config_text.specs.code.PartReading.{are_hex, is_grouped, groups_from, group_numbers}
use Rattle.config_text.proofs.ReadLemmas.{hex-to, hex_parts, length_groups, total, total_2, total_4}

-- how long a group is
abbrev pub IsSize : ℕ → Type 0
IsSize size = (size ≡ 2) ⊎ (size ≡ 4)

-- the group at a place
at_total : (place count size : ℕ) (text : List ℕ) → place < count → get_or (groups_from count size text) place 0 ≡ digits_value 16 (take size (drop (total place size) text))
at_total place zero size text h = absurd (omega (arith, h))
at_total zero (suc count) size text h = refl
at_total (suc place) (suc count) size text h =
    at_total place count size (drop size text) (omega (arith, h)) ∙ ap (λ l. digits_value 16 (take size l)) (drop-drop (total place size) size text)

total_is : (place size : ℕ) → IsSize size → place * size ≡ total place size
total_is place size (inl e) = rw e (omega (arith, total_2 place))
total_is place size (inr e) = rw e (omega (arith, total_4 place))

-- as the program writes the range
abbrev pub group_of : List ℕ → ℕ → ℕ → List ℕ
group_of text size place = take (place * size + size - place * size) (drop (place * size) text)

group_of-is : (text : List ℕ) (size place : ℕ) → group_of text size place ≡ take size (drop (place * size) text)
group_of-is text size place = let width : place * size + size - place * size ≡ size = omega arith in ap (λ k. take k (drop (place * size) text)) width

pub group_hex : (text : List ℕ) (size place : ℕ) → is_grouped size text ≡ true → are_hex (group_of text size place) ≡ true
group_hex text size place e =
    let p = and_parts _ _ e in
    (hex_parts (place * size + size - place * size) (drop (place * size) text) (hex_parts (place * size) text p.0).1).0

pub group_number : (text : List ℕ) (size place : ℕ) → IsSize size → place < length text / size → digits_value 16 (group_of text size place) ≡ get_or (group_numbers size text) place 0
group_number text size place sized h =
    ap (digits_value 16) (group_of-is text size place)
    ∙ ap (λ k. digits_value 16 (take size (drop k text))) (total_is place size sized)
    ∙ sym (at_total place (length text / size) size text h)

pub other_count : (text wanted : List ℕ) (size : ℕ) → length text / size ≢ length wanted → group_numbers size text ≡ wanted → ⊥
other_count text wanted size h e = h (sym (length_groups (length text / size) size text) ∙ ap length e)

-- numbers that are the same place by place
pub same_numbers : (text wanted : List ℕ) (size count : ℕ) → length text / size ≡ length wanted → length wanted ≤ count
    → ((k : ℕ) → k < count → get_or (group_numbers size text) k 0 ≡ get_or wanted k 0) → group_numbers size text ≡ wanted
same_numbers text wanted size count long all each =
    let sized : length (group_numbers size text) ≡ length wanted = length_groups (length text / size) size text ∙ long in
    same_number_lists (group_numbers size text) wanted sized (λ k less. each k (omega (arith, sized, less, all)))

-- ---- groups of four as twice as many of two

fours_as_pairs : (count : ℕ) (text : List ℕ) → 4 * count ≤ length text → AllDigits 16 text
    → flat_map hex_of (groups_from (2 * count) 2 text) ≡ flat_map four_digits (groups_from count 4 text)
fours_as_pairs zero text few h = refl
fours_as_pairs (suc count) [] few h = absurd (omega (arith, few))
fours_as_pairs (suc count) (a ∷ []) few h = absurd (omega (arith, few))
fours_as_pairs (suc count) (a ∷ b ∷ []) few h = absurd (omega (arith, few))
fours_as_pairs (suc count) (a ∷ b ∷ c ∷ []) few h = absurd (omega (arith, few))
fours_as_pairs (suc count) (a ∷ b ∷ c ∷ d ∷ rest) few (ha, (hb, (hc, (hd, others)))) =
    let v = digits_value 16 (a ∷ b ∷ c ∷ d ∷ []) in
    let front = digits_value 16 (a ∷ b ∷ []) in
    let back = digits_value 16 (c ∷ d ∷ []) in
    let pairs = flat_map hex_of (groups_from (2 * count) 2 rest) in
    let high : front ≡ v / 256 = omega (arith, ha, hb, hc, hd) in
    let low : back ≡ v % 256 = omega (arith, ha, hb, hc, hd) in
    let twice : 2 * suc count ≡ suc (suc (2 * count)) = omega arith in
    ap (λ k. flat_map hex_of (groups_from k 2 (a ∷ b ∷ c ∷ d ∷ rest))) twice
    ∙ ap (λ n. hex_of n ++ (hex_of back ++ pairs)) high
    ∙ ap (λ n. hex_of (v / 256) ++ (hex_of n ++ pairs)) low
    ∙ ap (λ l. hex_of (v / 256) ++ (hex_of (v % 256) ++ l)) (fours_as_pairs count rest (omega (arith, few)) others)

pub fours_are_pairs : (text : List ℕ) → is_grouped 4 text ≡ true → is_grouped 2 text ≡ true
fours_are_pairs text e =
    let p : (are_hex text ≡ true) × ((length text % 4 == 0) ≡ true) = and_parts _ _ e in
    let whole : length text % 4 ≡ 0 = eqb-true (length text % 4) 0 p.1 in
    let even : length text % 2 ≡ 0 = omega (arith, whole) in
    and_from _ _ p.0 (eq-eqb _ _ even)

pub words_as_pairs : (text : List ℕ) → is_grouped 4 text ≡ true
    → flat_map hex_of (group_numbers 2 text) ≡ flat_map four_digits (group_numbers 4 text)
words_as_pairs text e =
    let p : (are_hex text ≡ true) × ((length text % 4 == 0) ≡ true) = and_parts _ _ e in
    let whole : length text % 4 ≡ 0 = eqb-true (length text % 4) 0 p.1 in
    let half : length text / 2 ≡ 2 * (length text / 4) = omega (arith, whole) in
    ap (λ k. flat_map hex_of (groups_from k 2 text)) half
    ∙ fours_as_pairs (length text / 4) text (omega arith) (hex-to text p.0)
