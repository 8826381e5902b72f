-- What is read of a part is what the grammar says of it.
use Rattle.std.proofs.Common.{◌≡◌, ◌==◌, ◌&&◌, ℕ, zero, suc, ◌+◌, ◌*◌, ◌/◌, ◌%◌, ltb, true, List, [], ◌∷◌, ◌++◌, length, take, drop, Option, Some, None, refl, sym, ap, ◌∙◌, arith, eq-eqb, inl, inr, length-append, length-drop}
use Rattle.std.specs.Char.{is_digit}
use Rattle.std.specs.Option.{unwrap_or}
use Rattle.std.specs.Str.{bytes_eq}
use Rattle.std.specs.Str.Parse.{AllDigits, IsNumeral, digits_value}
use Rattle.std.proofs.lemmas.Bool.{and_parts, and_from, cases_Bool, cond-true, cond-false, eqb-true, ne_eqb, ltb-true, lt-ltb}
use Rattle.std.proofs.lemmas.List.{take-append-drop, length-take, nil_from_length}
use Rattle.std.proofs.lemmas.List.Folds.{list_all-append}
use Rattle.std.proofs.Math.Seq.{take-append_seam, drop-append_seam}
use Rattle.std.proofs.lemmas.Slice.Eq.{bytes_eq-Decides}
use Rattle.hii_bytes.specs.Digits.{number_below}
use Rattle.hii_bytes.proofs.DigitLemmas.{number_below-from, number_below-is}
use Rattle.config_text.specs.code.PartReading.{body_in, offset_in, width_in, positive, are_hex, is_grouped, groups_from, group_numbers}
use Rattle.config_text.specs.laws.Numbers.{IsOffset, IsWidth, AreGroups}

-- two values of options that are the same
pub some_is : {A : Type 0} (a b : A) → ◌≡◌ {A = Option A} (Some a) (Some b) → a ≡ b
some_is a b e = ap (λ o. unwrap_or o a) e

-- ---- keys

-- a part that begins with a key
pub body_in-of : (key body : List ℕ) → body_in key (key ++ body) ≡ Some body
body_in-of key body =
    let same : bytes_eq (take (length key) (key ++ body)) key ≡ true = (bytes_eq-Decides (take (length key) (key ++ body)) key).1 (take-append_seam key body) in
    cond-true _ (Some (drop (length key) (key ++ body))) None same ∙ ap Some (drop-append_seam key body)

pub body_in-is : (key part body : List ℕ) → body_in key part ≡ Some body → part ≡ key ++ body
body_in-is key part body e =
    let test = bytes_eq (take (length key) part) key in
    elim (cases_Bool test) [
      | inl is ↦
          let front : take (length key) part ≡ key = (bytes_eq-Decides (take (length key) part) key).0 is in
          let some : ◌≡◌ {A = Option (List ℕ)} (Some (drop (length key) part)) (Some body) = sym (cond-true test (Some (drop (length key) part)) None is) ∙ e in
          let rest : drop (length key) part ≡ body = some_is _ _ some in
          sym (take-append-drop (length key) part) ∙ ap (λ l. l ++ drop (length key) part) front ∙ ap (λ l. key ++ l) rest
      | inr other ↦ let none : ◌≡◌ {A = Option (List ℕ)} None (Some body) = sym (cond-false test (Some (drop (length key) part)) None other) ∙ e in (cc)
    ]

pub body_in-none : (key part : List ℕ) → body_in key part ≡ None → (body : List ℕ) → part ≡ key ++ body → ⊥
body_in-none key part e body is = let bad : ◌≡◌ {A = Option (List ℕ)} None (Some body) = sym e ∙ ap (body_in key) is ∙ body_in-of key body in (cc)

pub body_in-lacks : (key part : List ℕ) → ((body : List ℕ) → part ≡ key ++ body → ⊥) → body_in key part ≡ None
body_in-lacks key part h = go (body_in key part) refl
  where
    go : (o : Option (List ℕ)) → body_in key part ≡ o → o ≡ None
    go None e = refl
    go (Some body) e = absurd (h body (body_in-is key part body e))

-- ---- numbers

pub offset-from : (text : List ℕ) (n : ℕ) → IsOffset text n → offset_in text ≡ Some n
offset-from text n h = number_below-from 65536 16 8 text n h

pub offset-is : (text : List ℕ) (n : ℕ) → offset_in text ≡ Some n → IsOffset text n
offset-is text n e = number_below-is 65536 16 8 text n e

positive_suc : (n : ℕ) → positive (Some (suc n)) ≡ Some (suc n)
positive_suc n = cond-false (suc n == 0) None (Some (suc n)) (ne_eqb (suc n) 0 (λ e. omega (arith, e)))

pub width-from : (text : List ℕ) (n : ℕ) → IsWidth text n → width_in text ≡ Some n
width-from text zero h = absurd (omega (arith, h.1))
width-from text (suc n) h = ap positive (number_below-from 65536 16 8 text (suc n) h.0) ∙ positive_suc n

pub width-is : (text : List ℕ) (n : ℕ) → width_in text ≡ Some n → IsWidth text n
width-is text n e = go (number_below 65536 16 8 text) refl e
  where
    go : (o : Option ℕ) → number_below 65536 16 8 text ≡ o → positive o ≡ Some n → IsWidth text n
    go None is e = (cc)
    go (Some zero) is e = (cc)
    go (Some (suc m)) is e =
        let some : ◌≡◌ {A = Option ℕ} (Some (suc m)) (Some n) = sym (positive_suc m) ∙ e in
        let same : suc m ≡ n = some_is _ _ some in
        (number_below-is 65536 16 8 text n (is ∙ ap Some same), omega (arith, same))

-- ---- values

pub hex-to : (text : List ℕ) → are_hex text ≡ true → AllDigits 16 text
hex-to [] e = tt
hex-to (b ∷ text) e = let p = and_parts _ _ e in (ltb-true _ _ p.0, hex-to text p.1)

pub hex-from : (text : List ℕ) → AllDigits 16 text → are_hex text ≡ true
hex-from [] h = refl
hex-from (b ∷ text) h = and_from _ _ (lt-ltb _ _ h.0) (hex-from text h.1)

pub numeral-is : (text : List ℕ) → (ltb 0 (length text) && are_hex text) ≡ true → IsNumeral 16 text
numeral-is text e = let p = and_parts _ _ e in (ltb-true _ _ p.0, hex-to text p.1)

pub numeral-from : (text : List ℕ) → IsNumeral 16 text → (ltb 0 (length text) && are_hex text) ≡ true
numeral-from text h = and_from _ _ (lt-ltb _ _ h.0) (hex-from text h.1)

-- ---- groups of digits

pub hex_parts : (k : ℕ) (text : List ℕ) → are_hex text ≡ true → (are_hex (take k text) ≡ true) × (are_hex (drop k text) ≡ true)
hex_parts k text e = and_parts _ _ (sym (list_all-append (λ b. is_digit b 16) (take k text) (drop k text)) ∙ ap are_hex (take-append-drop k text) ∙ e)

-- how long so many groups are
abbrev pub total : ℕ → ℕ → ℕ
total zero size = 0
total (suc count) size = size + total count size

pub total_2 : (count : ℕ) → total count 2 ≡ 2 * count
total_2 zero = refl
total_2 (suc count) = omega (arith, total_2 count)

pub total_4 : (count : ℕ) → total count 4 ≡ 4 * count
total_4 zero = refl
total_4 (suc count) = omega (arith, total_4 count)

pub length_groups : (count size : ℕ) (text : List ℕ) → length (groups_from count size text) ≡ count
length_groups zero size text = refl
length_groups (suc count) size text = omega (arith, length_groups count size (drop size text))

groups-is : (count size : ℕ) (text : List ℕ) → are_hex text ≡ true → length text ≡ total count size → AreGroups size text (groups_from count size text)
groups-is zero size text hex long = nil_from_length text long
groups-is (suc count) size text hex long =
    let p = hex_parts size text hex in
    let sized : length (take size text) ≡ size = omega (arith, length-take size text, long) in
    let less : length (drop size text) ≡ total count size = omega (arith, length-drop size text, long) in
    (take size text, drop size text, sym (take-append-drop size text), record { digits = hex-to (take size text) p.0; sized = sized; value = refl }, groups-is count size (drop size text) p.1 less)

-- what the grammar's groups are read as
record AreRead (size : ℕ) (text numbers : List ℕ) : Type 0 where
  hex : are_hex text ≡ true
  long : length text ≡ total (length numbers) size
  same : groups_from (length numbers) size text ≡ numbers

groups-from : (size : ℕ) (numbers text : List ℕ) → AreGroups size text numbers → AreRead size text numbers
groups-from size [] text h = record { hex = ap are_hex h; long = ap length h; same = refl }
groups-from size (n ∷ numbers) text (group, rest, whole, one, others) =
    let r = groups-from size numbers rest others in
    let front : take size text ≡ group = ap (take size) whole ∙ ap (λ k. take k (group ++ rest)) (sym one.sized) ∙ take-append_seam group rest in
    let back : drop size text ≡ rest = ap (drop size) whole ∙ ap (λ k. drop k (group ++ rest)) (sym one.sized) ∙ drop-append_seam group rest in
    record {
      hex = ap are_hex whole ∙ list_all-append (λ b. is_digit b 16) group rest ∙ and_from _ _ (hex-from group one.digits) r.hex;
      long = ap length whole ∙ omega (arith, length-append group rest, one.sized, r.long);
      same = ap (λ g. digits_value 16 g ∷ groups_from (length numbers) size (drop size text)) front
          ∙ ap (λ m. m ∷ groups_from (length numbers) size (drop size text)) one.value
          ∙ ap (λ t. n ∷ groups_from (length numbers) size t) back ∙ ap (λ l. n ∷ l) r.same;
    }

pub pairs-is : (text : List ℕ) → is_grouped 2 text ≡ true → AreGroups 2 text (group_numbers 2 text)
pairs-is text e =
    let p = and_parts _ _ e in
    let whole : length text % 2 ≡ 0 = eqb-true _ _ p.1 in
    groups-is (length text / 2) 2 text p.0 (omega (arith, whole, total_2 (length text / 2)))

pub quads-is : (text : List ℕ) → is_grouped 4 text ≡ true → AreGroups 4 text (group_numbers 4 text)
quads-is text e =
    let p = and_parts _ _ e in
    let whole : length text % 4 ≡ 0 = eqb-true _ _ p.1 in
    groups-is (length text / 4) 4 text p.0 (omega (arith, whole, total_4 (length text / 4)))

pub pairs-from : (text numbers : List ℕ) → AreGroups 2 text numbers → (is_grouped 2 text ≡ true) × (group_numbers 2 text ≡ numbers) × (length text ≡ 2 * length numbers)
pairs-from text numbers h =
    let r = groups-from 2 numbers text h in
    let long : length text ≡ 2 * length numbers = r.long ∙ total_2 (length numbers) in
    let half : length text / 2 ≡ length numbers = omega (arith, long) in
    let even : length text % 2 ≡ 0 = omega (arith, long) in
    (and_from _ _ r.hex (eq-eqb _ _ even), ap (λ k. groups_from k 2 text) half ∙ r.same, long)

pub quads-from : (text numbers : List ℕ) → AreGroups 4 text numbers → (is_grouped 4 text ≡ true) × (group_numbers 4 text ≡ numbers)
quads-from text numbers h =
    let r = groups-from 4 numbers text h in
    let long : length text ≡ 4 * length numbers = r.long ∙ total_4 (length numbers) in
    let part : length text / 4 ≡ length numbers = omega (arith, long) in
    let even : length text % 4 ≡ 0 = omega (arith, long) in
    (and_from _ _ r.hex (eq-eqb _ _ even), ap (λ k. groups_from k 4 text) part ∙ r.same)

pub length_pairs : (text : List ℕ) → length (group_numbers 2 text) ≡ length text / 2
length_pairs text = length_groups (length text / 2) 2 text
