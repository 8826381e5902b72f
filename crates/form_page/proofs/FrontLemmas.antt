-- Characters of ASCII at the front of texts, which are shown as they are.
use Rattle.std.proofs.Common.{◌≡◌, ℕ, ◌+◌, ◌-◌, ◌*◌, ◌≤◌, ◌<◌, true, false, ◌&&◌, ◌||◌, nat_le, nat_lt, ◌==◌, List, [], ◌∷◌, ◌++◌, length, take, drop, set, replicate, get_or, encode_utf8, refl, sym, ap, ◌∙◌, append_assoc, length-take, length-set, take-append-drop, arith}
use Rattle.std.specs.List.{list_all}
use Rattle.std.proofs.lemmas.Bool.{eqb-true, and_parts, and_from, and_left, or_from, leb-true, ltb-true, lt-ltb, le-ltb, le-leb, lt-leb}
use Rattle.std.proofs.lemmas.List.{take_more_set, drop-set-lt, drop-drop, drop-replicate, length-replicate}
use Rattle.std.proofs.lemmas.List.Concat.{flat_map-append}
use Rattle.std.proofs.lemmas.List.Folds.{list_all-append}
use Rattle.std.proofs.lemmas.Str.{encode_ascii}
use Rattle.unicode_width.specs.Width.{char_width}
use Rattle.browser_rules.specs.Strings.{shown_unit, characters}
use Rattle.sibt_strings.proofs.UnitLemmas.{chars_more}
use Rattle.form_page.specs.Texts.{columns, width, utf8, cut_to, in_columns}
use Rattle.form_page.specs.code.Fronts.{is_plain, Begins, Copies}
use Rattle.form_page.proofs.TextLemmas.{is_cut}

bounds : (c : ℕ) → is_plain c ≡ true → (0x20 ≤ c) × (c < 0x7f)
bounds c plain =
    let its = and_parts (nat_le 0x20 c) (nat_lt c 0x7f) plain in
    (leb-true 0x20 c its.0, ltb-true c 0x7f its.1)

plain_unit : (c : ℕ) → is_plain c ≡ true → shown_unit c ≡ c ∷ []
plain_unit c plain =
    let its = bounds c plain in
    let control : (nat_lt c 0x20 || nat_le 0x7f c && nat_lt c 0xa0) ≡ false = or_from _ _ (le-ltb c 0x20 its.0) (and_left _ _ (lt-leb 0x7f c its.1)) in
    let surrogate : (nat_le 0xd800 c && nat_lt c 0xe000) ≡ false = and_left _ _ (lt-leb 0xd800 c (omega (arith, its.1))) in
    let special : (nat_le 0xfff0 c && nat_lt c 0xfff3) ≡ false = and_left _ _ (lt-leb 0xfff0 c (omega (arith, its.1))) in
    rw (control, surrogate, special) refl

plain_columns : (c : ℕ) → is_plain c ≡ true → columns c ≡ 1
unfolding char_width
plain_columns c plain =
    let its = bounds c plain in
    rw (lt-ltb c 0x7f its.1, le-leb 0x20 c its.0) refl

-- ---- such characters at the front of others

pub plain_utf8 : (front : List ℕ) → list_all is_plain front ≡ true → utf8 front ≡ front
plain_utf8 [] plain = refl
plain_utf8 (c ∷ front) plain =
    let its = and_parts (is_plain c) (list_all is_plain front) plain in
    let small : c < 128 = omega (arith, (bounds c its.0).1) in
    ap (λ (l : List ℕ). l ++ utf8 front) (encode_ascii c small) ∙ ap (λ (l : List ℕ). c ∷ l) (plain_utf8 front its.1)

pub plain_before : (front later : List ℕ) → list_all is_plain front ≡ true → utf8 (front ++ later) ≡ front ++ utf8 later
plain_before front later plain = flat_map-append encode_utf8 front later ∙ ap (λ (l : List ℕ). l ++ utf8 later) (plain_utf8 front plain)

plain_cut : (count : ℕ) (front later : List ℕ) → list_all is_plain front ≡ true → length front ≤ count → cut_to count (front ++ later) ≡ front ++ cut_to (count - length front) later
plain_cut count [] later plain fits = ap (λ (n : ℕ). cut_to n later) (omega arith)
plain_cut count (c ∷ front) later plain fits =
    let its = and_parts (is_plain c) (list_all is_plain front) plain in
    let one = plain_columns c its.0 in
    let less : count - columns c ≡ count - 1 = omega (arith, one) in
    let behind : (count - 1) - length front ≡ count - length (c ∷ front) = omega arith in
    is_cut count c (front ++ later) (omega (arith, one, fits))
    ∙ ap (λ (n : ℕ). c ∷ cut_to n (front ++ later)) less
    ∙ ap (λ (l : List ℕ). c ∷ l) (plain_cut (count - 1) front later its.1 (omega (arith, fits)))
    ∙ ap (λ (n : ℕ). c ∷ (front ++ cut_to n later)) behind

plain_width : (front later : List ℕ) → list_all is_plain front ≡ true → width (front ++ later) ≡ length front + width later
plain_width [] later plain = omega arith
plain_width (c ∷ front) later plain =
    let its = and_parts (is_plain c) (list_all is_plain front) plain in
    omega (arith, plain_columns c its.0, plain_width front later its.1)

plain_in_columns : (count : ℕ) (front later : List ℕ) → list_all is_plain front ≡ true → length front ≤ count → in_columns count (front ++ later) ≡ front ++ in_columns (count - length front) later
plain_in_columns count front later plain fits =
    let cut = cut_to (count - length front) later in
    let left : count - width (front ++ cut) ≡ (count - length front) - width cut = omega (arith, plain_width front cut plain) in
    ap (λ (t : List ℕ). utf8 t ++ replicate (count - width t) 32) (plain_cut count front later plain fits)
    ∙ ap (λ (l : List ℕ). l ++ replicate (count - width (front ++ cut)) 32) (plain_before front cut plain)
    ∙ ap (λ (n : ℕ). (front ++ utf8 cut) ++ replicate n 32) left
    ∙ append_assoc front (utf8 cut) (replicate ((count - length front) - width cut) 32)

-- ---- how they are copied

pub begins : (units : List ℕ) (c : ℕ) → 2 ≤ length units → get_or units 0 0 ≡ c → get_or units 1 0 ≡ 0 → is_plain c ≡ true → Begins units c (drop 2 units)
begins units c two low high plain =
    let unit : get_or units 0 0 + 256 * get_or units 1 0 ≡ c = omega (arith, low, high) in
    record {
      plain = plain;
      parts = chars_more units two ∙ ap (λ (l : List ℕ). l ++ characters (drop 2 units)) (ap shown_unit unit ∙ plain_unit c plain);
    }

pub none_copied : (units room : List ℕ) → Copies units room room 0 units
none_copied units room = record { parts = refl; plain = refl; others = refl; within = omega arith; sized = refl }

pub one_copied : (units old new : List ℕ) (count c : ℕ) (rest behind : List ℕ) → Copies units old new count rest → Begins rest c behind → count < length new → Copies units old (set new count c) (count + 1) behind
one_copied units old new count c rest behind so_far next room =
    let front = take count new in
    let more : take (count + 1) (set new count c) ≡ front ++ c ∷ [] = take_more_set new count c room in
    let alone : list_all is_plain (c ∷ []) ≡ true = and_from _ _ next.plain refl in
    record {
      parts = so_far.parts ∙ ap (λ (l : List ℕ). front ++ l) next.parts ∙ sym (append_assoc front (c ∷ []) (characters behind)) ∙ ap (λ (l : List ℕ). l ++ characters behind) (sym more);
      plain = ap (list_all is_plain) more ∙ list_all-append is_plain front (c ∷ []) ∙ and_from _ _ so_far.plain alone;
      others = drop-set-lt (count + 1) new count c (omega arith) ∙ sym (drop-drop 1 count new) ∙ ap (λ (l : List ℕ). drop 1 l) so_far.others ∙ drop-drop 1 count old;
      within = omega (arith, length-set new count c);
      sized = length-set new count c ∙ so_far.sized;
    }

front_size : (units old new : List ℕ) (count : ℕ) (rest : List ℕ) → Copies units old new count rest → length (take count new) ≡ count
front_size units old new count rest copies = omega (arith, length-take count new, copies.within)

-- ---- and written

pub utf8_copied : (units old new : List ℕ) (count : ℕ) (rest : List ℕ) → Copies units old new count rest → utf8 (characters units) ≡ take count new ++ utf8 (characters rest)
utf8_copied units old new count rest copies = ap utf8 copies.parts ∙ plain_before (take count new) (characters rest) copies.plain

pub columns_copied : (size : ℕ) (units old new : List ℕ) (count : ℕ) (rest : List ℕ) → length old ≡ size → Copies units old new count rest
    → in_columns size (characters units) ≡ take count new ++ in_columns (size - count) (characters rest)
columns_copied size units old new count rest whole copies =
    let front = take count new in
    let sized = front_size units old new count rest copies in
    let fits : length front ≤ size = omega (arith, sized, copies.within, copies.sized, whole) in
    ap (in_columns size) copies.parts ∙ plain_in_columns size front (characters rest) copies.plain fits
    ∙ ap (λ (n : ℕ). front ++ in_columns (size - n) (characters rest)) sized

-- a text that is all copied has spaces behind it
none_left : (rest : List ℕ) → (length rest == 0) ≡ true → rest ≡ []
none_left [] none = refl
none_left (b ∷ rest) none = absurd (omega (arith, eqb-true (length (b ∷ rest)) 0 none))

pub all_copied : (size : ℕ) (units new : List ℕ) (count : ℕ) (rest : List ℕ) → (length rest == 0) ≡ true → Copies units (replicate size 32) new count rest → in_columns size (characters units) ≡ new
unfolding characters
all_copied size units new count rest none copies =
    let front = take count new in
    let whole = length-replicate {A = ℕ} size 32 in
    let zero : (size - count) - 0 ≡ size - count = omega arith in
    let spaces : drop count new ≡ replicate (size - count) 32 = copies.others ∙ drop-replicate count size 32 in
    columns_copied size units (replicate size 32) new count rest whole copies
    ∙ ap (λ (l : List ℕ). front ++ in_columns (size - count) (characters l)) (none_left rest none)
    ∙ ap (λ (n : ℕ). front ++ replicate n 32) zero
    ∙ ap (λ (l : List ℕ). front ++ l) (sym spaces) ∙ take-append-drop count new
