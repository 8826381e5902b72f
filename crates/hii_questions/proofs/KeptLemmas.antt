-- What a field takes is what it then holds.
use Rattle.std.proofs.Common.{◌≡◌, ℕ, zero, suc, ◌+◌, ◌-◌, ◌*◌, ◌/◌, ◌^◌, ◌<◌, ◌≤◌, ◌||◌, ◌&&◌, Bool, true, false, eqb, ltb, not, cond, ℤ, pos, negsuc, Option, Some, None, Ok, Err, List, [], ◌∷◌, length, drop, replicate, refl, sym, ap, ◌∙◌, arith, inl, inr, length-append, chars}
use Rattle.std.specs.Prelude.{Result, int_lt}
use Rattle.std.specs.List.{list_any, take_while}
use Rattle.std.specs.Str.{is_utf8}
use Rattle.std.proofs.Math.Nat.{one-le-pow, mul-le-mul_right}
use Rattle.std.proofs.lemmas.Bool.{cases_Bool, and_parts, or_parts, not-true, ltb-true, ltb-false}
use Rattle.std.proofs.lemmas.Option.{cond_some}
use Rattle.std.proofs.lemmas.List.{append-nil, length-replicate, get_or-drop}
use Rattle.byteorder.specs.Endian.{little_number, little_bytes}
use Rattle.byteorder.specs.Numbers.{little_number-reads_back, length-bytes_low_first, little_from-lt}
use Rattle.hii_bytes.specs.Numbers.{AreBytes}
use Rattle.ifr_expr.specs.Values as values
use Rattle.ifr_expr.specs.Values.{natural, buffer}
use Rattle.hii_values.specs.Answers.{answer_in}
use Rattle.hii_values.specs.FieldTypes.{FieldType, checkbox, numeric, one_of, text, ordered_list, size_of_type}
use Rattle.hii_values.specs.Inputs.{Offer, whole, raw, utf8, units, listed, elements, fits_type, checkbox_number, bits_of, fitting_bits, numeric_bytes, number_of_bits, is_offered, offered, chosen_bytes, text_bytes, is_text, is_bad_character, element_denial, bytes_unless, list_bytes}
use Rattle.hii_values.specs.Items.{items_in, is_item, spelled, filled, numbers, bytes_of_items}
use Rattle.hii_values.specs.declared.denial.DenialKind.{DenialKind}
use Rattle.hii_values.specs.declared.denial.DenialKind.TheVariants.{Range, NoOption, Length, EmptySet, BadText}
use Rattle.hii_values.proofs.ItemLemmas.{while_more}
use Rattle.hii_values.proofs.ListLemmas.{length_spelled}
use Rattle.hii_questions.specs.laws.Fields.{complement, choice, taken_as, HasBytes}
use Rattle.hii_questions.proofs.SpellLemmas.{AreItems, bytes_back}

-- the values of options fit
abbrev pub IsSound : FieldType → Type 0
IsSound (one_of width vs) = (v : ℕ) → is_offered vs v ≡ true → v < 256 ^ width
IsSound t = Unit {0}

abbrev taken : List ℕ → Result (List ℕ) DenialKind
taken bytes = Ok bytes

same_bytes : (a b : List ℕ) → taken a ≡ taken b → a ≡ b
same_bytes a b e = cc

checkbox_kept : (n : ℤ) (bytes : List ℕ) → checkbox_number n ≡ Ok bytes → (answer_in checkbox bytes ≡ taken_as checkbox (whole n)) × (length bytes ≡ 1)
checkbox_kept (pos n) bytes e = elim (cases_Bool (eqb n 0)) [
  | inl off ↦
      let is : 0 ∷ [] ≡ bytes = same_bytes (0 ∷ []) bytes (sym (rw off refl) ∙ e) in
      (ap (answer_in checkbox) (sym is) ∙ rw off refl, ap (length {A = ℕ}) (sym is))
  | inr some ↦ elim (cases_Bool (eqb n 1)) [
    | inl on ↦
        let is : 1 ∷ [] ≡ bytes = same_bytes (1 ∷ []) bytes (sym (rw (some, on) refl) ∙ e) in
        (ap (answer_in checkbox) (sym is) ∙ rw some refl, ap (length {A = ℕ}) (sym is))
    | inr more ↦ let none = rw (some, more) at e in absurd (cc)
  ]
]
checkbox_kept (negsuc n) bytes e = absurd (cc)

bits_kept : (bits : ℕ) (bytes : List ℕ) → fits_type checkbox (raw bits) ≡ Ok bytes → (answer_in checkbox bytes ≡ taken_as checkbox (raw bits)) × (length bytes ≡ 1)
bits_kept bits bytes e =
    let is : cond (eqb bits 0) 0 1 ∷ [] ≡ bytes = same_bytes (cond (eqb bits 0) 0 1 ∷ []) bytes e in
    (ap (answer_in checkbox) (sym is) ∙ elim (cases_Bool (eqb bits 0)) [ inl off ↦ rw off refl | inr on ↦ rw on refl ], ap (length {A = ℕ}) (sym is))

-- a number in its bytes
pub number_back : (w b : ℕ) → b < 256 ^ w → little_number w (little_bytes w b) ≡ b
number_back w b less = ap (little_number w) (sym (append-nil (little_bytes w b))) ∙ little_number-reads_back w b [] less

pow_some : (w : ℕ) → 0 < 256 ^ w
pow_some w = let h = one-le-pow w 256 (omega arith) in omega arith

pub fitting_is : (w bits b : ℕ) → fitting_bits w bits ≡ Some b → (b ≡ bits) × (b < 256 ^ w)
fitting_is w bits b e =
    let is = cond_some (ltb bits (256 ^ w)) bits b e in
    (sym is.1, omega (arith, is.1, ltb-true bits (256 ^ w) is.0))

pub bits_are : (signed : Bool) (w : ℕ) (n : ℤ) (b : ℕ) → bits_of signed w n ≡ Some b → (b ≡ complement w n) × (b < 256 ^ w)
bits_are signed w (pos n) b e =
    let most = cond signed (256 ^ w / 2) (256 ^ w) in
    let is = cond_some (ltb n most) n b e in
    let below : most ≤ 256 ^ w = elim signed as (λ s. cond s (256 ^ w / 2) (256 ^ w) ≤ 256 ^ w) [ true ↦ omega arith | false ↦ omega arith ] in
    (sym is.1, omega (arith, is.1, below, ltb-true n most is.0))
bits_are signed w (negsuc n) b e =
    let is = cond_some (signed && ltb n (256 ^ w / 2)) (256 ^ w - suc n) b e in
    (sym is.1, omega (arith, is.1, pow_some w))

pub numeric_are : (signed : Bool) (w mn mx : ℕ) (o : Option ℕ) (bytes : List ℕ) → numeric_bytes signed w mn mx o ≡ Ok bytes → (b : ℕ) × (o ≡ Some b) × (bytes ≡ little_bytes w b)
numeric_are signed w mn mx None bytes e = absurd (cc)
numeric_are signed w mn mx (Some b) bytes e = elim (cases_Bool (int_lt (number_of_bits signed w b) (number_of_bits signed w mn) || int_lt (number_of_bits signed w mx) (number_of_bits signed w b))) [
  | inl out ↦ let none : ◌≡◌ {A = Result (List ℕ) DenialKind} (Err Range) (Ok bytes) = sym (rw out refl) ∙ e in absurd (cc)
  | inr within ↦ (b, refl, sym (same_bytes (little_bytes w b) bytes (sym (rw within refl) ∙ e)))
]

-- the bytes of a number
number_kept : (w b n : ℕ) (bytes : List ℕ) → bytes ≡ little_bytes w b → b ≡ n → b < 256 ^ w → natural (little_number w bytes) ≡ natural n
number_kept w b n bytes is same less = ap (λ (l : List ℕ). natural (little_number w l)) is ∙ ap natural (number_back w b less ∙ same)

pub chosen_are : (w : ℕ) (vs : List ℕ) (z : ℤ) (bytes : List ℕ) → chosen_bytes w (offered vs z) ≡ Ok bytes → (v : ℕ) × (z ≡ pos v) × (is_offered vs v ≡ true) × (bytes ≡ little_bytes w v)
chosen_are w vs (pos v) bytes e = elim (cases_Bool (is_offered vs v)) [
  | inl has ↦ (v, refl, has, sym (same_bytes (little_bytes w v) bytes (sym (rw has refl) ∙ e)))
  | inr other ↦ let none : ◌≡◌ {A = Result (List ℕ) DenialKind} (Err NoOption) (Ok bytes) = sym (rw other refl) ∙ e in absurd (cc)
]
chosen_are w vs (negsuc v) bytes e = absurd (cc)

filled_length : (size : ℕ) (bytes : List ℕ) → length bytes ≤ size → length (filled size bytes) ≡ size
filled_length size bytes h =
    let sum = length-append bytes (replicate (size - length bytes) 0) in
    let zeros = length-replicate {A = ℕ} (size - length bytes) 0 in
    omega (arith, sum, zeros)

text_are : (mn mx : ℕ) (us bytes : List ℕ) → text_bytes mn mx us ≡ Ok bytes → (bytes ≡ filled (2 * mx) (spelled 2 us)) × (length us ≤ mx)
text_are mn mx us bytes e = elim (cases_Bool (ltb (length us) mn || ltb mx (length us))) [
  | inl out ↦ let none : ◌≡◌ {A = Result (List ℕ) DenialKind} (Err Length) (Ok bytes) = sym (rw out refl) ∙ e in absurd (cc)
  | inr within ↦
      let parts = or_parts (ltb (length us) mn) (ltb mx (length us)) within in
      (sym (same_bytes (filled (2 * mx) (spelled 2 us)) bytes (sym (rw within refl) ∙ e)), ltb-false mx (length us) parts.1)
]

text_kept : (mn mx : ℕ) (us bytes : List ℕ) → AreItems 2 us → text_bytes mn mx us ≡ Ok bytes → answer_in (text mn mx) bytes ≡ values.text (spelled 2 us)
text_kept mn mx us bytes items e =
    let are = text_are mn mx us bytes e in
    ap (λ (l : List ℕ). values.text (bytes_of_items 2 l)) are.0 ∙ ap values.text (bytes_back 2 (2 * mx) us (omega arith) items)

-- characters that are units
fine_items : (cs : List ℕ) → list_any is_bad_character cs ≡ false → AreItems 2 cs
fine_items [] e = tt
fine_items (c ∷ cs) e =
    elim (cases_Bool (eqb c 0)) [
      | inl zero_c ↦ let bad : true ≡ false = sym (rw zero_c refl) ∙ e in absurd (cc)
      | inr some ↦ elim (cases_Bool (ltb 0xffff c)) [
        | inl large ↦ let bad : true ≡ false = sym (rw (some, large) refl) ∙ e in absurd (cc)
        | inr fits ↦
            let rest : list_any is_bad_character cs ≡ false = sym (rw (some, fits) refl) ∙ e in
            ((λ z. let bad : eqb 0 0 ≡ false = ap (λ (k : ℕ). eqb k 0) (sym z) ∙ some in absurd (cc)), omega (arith, ltb-false 0xffff c fits), fine_items cs rest)
      ]
    ]

-- items in bytes
stored_items : (n w : ℕ) (bytes : List ℕ) → AreBytes bytes → AreItems w (take_while is_item (numbers n w bytes))
stored_items zero w bytes are = tt
stored_items (suc n) w bytes are =
    let first = little_number w bytes in
    let later : AreBytes (drop w bytes) = λ k. let h = are (w + k) in let e = get_or-drop w bytes k 0 in omega (arith, h, e) in
    elim (cases_Bool (eqb first 0)) [
      | inl none ↦ rw none tt
      | inr some ↦
          let more = while_more first (numbers n w (drop w bytes)) some in
          rw more ((λ z. let bad : eqb 0 0 ≡ false = ap (λ (k : ℕ). eqb k 0) (sym z) ∙ some in absurd (cc)), little_from-lt 0 w bytes are, stored_items n w (drop w bytes) later)
    ]

utf8_kept : (mn mx : ℕ) (given bytes : List ℕ) → fits_type (text mn mx) (utf8 given) ≡ Ok bytes → answer_in (text mn mx) bytes ≡ taken_as (text mn mx) (utf8 given)
utf8_kept mn mx given bytes e = elim (cases_Bool (is_text given)) [
  | inl is ↦
      let told : text_bytes mn mx (chars given) ≡ Ok bytes = sym (rw is refl) ∙ e in
      let bad = list_any is_bad_character (chars given) in
      text_kept mn mx (chars given) bytes (fine_items (chars given) (not-true bad (and_parts (is_utf8 given) (not bad) is).1)) told
  | inr other ↦ let none : ◌≡◌ {A = Result (List ℕ) DenialKind} (Err BadText) (Ok bytes) = sym (rw other refl) ∙ e in absurd (cc)
]

pub list_are : (w most : ℕ) (unique some : Bool) (vs ns bytes : List ℕ) → list_bytes w most unique some vs ns ≡ Ok bytes
    → (bytes ≡ filled (most * w) (spelled w ns)) × (length ns ≤ most) × (element_denial vs unique ns ≡ None)
list_are w most unique some vs ns bytes e = elim (cases_Bool (ltb most (length ns))) [
  | inl more ↦ let none : ◌≡◌ {A = Result (List ℕ) DenialKind} (Err Length) (Ok bytes) = sym (rw more refl) ∙ e in absurd (cc)
  | inr few ↦ elim (cases_Bool (some && eqb (length ns) 0)) [
    | inl empty ↦ let none : ◌≡◌ {A = Result (List ℕ) DenialKind} (Err EmptySet) (Ok bytes) = sym (rw (few, empty) refl) ∙ e in absurd (cc)
    | inr full ↦
        let given : bytes_unless (element_denial vs unique ns) (filled (most * w) (spelled w ns)) ≡ Ok bytes = sym (rw (few, full) refl) ∙ e in
        let are = go (element_denial vs unique ns) given in
        (are.0, ltb-false most (length ns) few, are.1)
  ]
]
  where
    go : (d : Option DenialKind) → bytes_unless d (filled (most * w) (spelled w ns)) ≡ Ok bytes → (bytes ≡ filled (most * w) (spelled w ns)) × (d ≡ None)
    go None e = (sym (same_bytes (filled (most * w) (spelled w ns)) bytes e), refl)
    go (Some k) e = absurd (cc)

list_kept : (w most : ℕ) (unique some : Bool) (vs ns bytes : List ℕ) → list_bytes w most unique some vs ns ≡ Ok bytes
    → (answer_in (ordered_list w most unique some vs) bytes ≡ buffer (filled (most * w) (spelled w ns))) × (length bytes ≡ most * w)
list_kept w most unique some vs ns bytes e =
    let are = list_are w most unique some vs ns bytes e in
    let sized = length_spelled w ns in
    let wide : length ns * w ≤ most * w = mul-le-mul_right w are.1 in
    (ap buffer are.0, ap (length {A = ℕ}) are.0 ∙ filled_length (most * w) (spelled w ns) (omega (arith, sized, wide)))

numeric_kept : (signed : Bool) (w mn mx : ℕ) (o : Option ℕ) (n : ℕ) (bytes : List ℕ) → ((b : ℕ) → o ≡ Some b → (b ≡ n) × (b < 256 ^ w)) → numeric_bytes signed w mn mx o ≡ Ok bytes
    → natural (little_number w bytes) ≡ natural n
numeric_kept signed w mn mx o n bytes those e =
    let are = numeric_are signed w mn mx o bytes e in
    let its = those are.0 are.1 in
    number_kept w are.0 n bytes are.2 its.0 its.1

one_of_kept : (w : ℕ) (vs : List ℕ) (z : ℤ) (bytes : List ℕ) → IsSound (one_of w vs) → chosen_bytes w (offered vs z) ≡ Ok bytes → natural (little_number w bytes) ≡ choice z
one_of_kept w vs z bytes sound e =
    let are = chosen_are w vs z bytes e in
    number_kept w are.0 are.0 bytes are.3 refl (sound are.0 are.2) ∙ ap choice (sym are.1)

pub kept : (t : FieldType) (offer : Offer) (bytes : List ℕ) → IsSound t → HasBytes offer → fits_type t offer ≡ Ok bytes → answer_in t bytes ≡ taken_as t offer
kept checkbox (whole n) bytes sound given e = (checkbox_kept n bytes e).0
kept checkbox (raw bits) bytes sound given e = (bits_kept bits bytes e).0
kept (numeric signed w mn mx) (whole n) bytes sound given e = numeric_kept signed w mn mx (bits_of signed w n) (complement w n) bytes (λ b. bits_are signed w n b) e
kept (numeric signed w mn mx) (raw bits) bytes sound given e = numeric_kept signed w mn mx (fitting_bits w bits) bits bytes (λ b. fitting_is w bits b) e
kept (one_of w vs) (whole n) bytes sound given e = one_of_kept w vs n bytes sound e
kept (one_of w vs) (raw bits) bytes sound given e = one_of_kept w vs (pos bits) bytes sound e
kept (text mn mx) (utf8 given) bytes sound are e = utf8_kept mn mx given bytes e
kept (text mn mx) (units given) bytes sound are e = text_kept mn mx (items_in 2 given) bytes (stored_items (length given / 2) 2 given are) e
kept (ordered_list w most unique some vs) (listed ns) bytes sound given e = (list_kept w most unique some vs ns bytes e).0
kept (ordered_list w most unique some vs) (elements given) bytes sound are e = (list_kept w most unique some vs (items_in w given) bytes e).0
kept t offer bytes sound given e = absurd (cc)

-- ---- how many bytes a field takes

number_wide : (w b : ℕ) (bytes : List ℕ) → bytes ≡ little_bytes w b → length bytes ≡ w
number_wide w b bytes is = ap (length {A = ℕ}) is ∙ length-bytes_low_first 0 w b

numeric_wide : (signed : Bool) (w mn mx : ℕ) (o : Option ℕ) (bytes : List ℕ) → numeric_bytes signed w mn mx o ≡ Ok bytes → length bytes ≡ w
numeric_wide signed w mn mx o bytes e = let are = numeric_are signed w mn mx o bytes e in number_wide w are.0 bytes are.2

one_of_wide : (w : ℕ) (vs : List ℕ) (z : ℤ) (bytes : List ℕ) → chosen_bytes w (offered vs z) ≡ Ok bytes → length bytes ≡ w
one_of_wide w vs z bytes e = let are = chosen_are w vs z bytes e in number_wide w are.0 bytes are.3

text_wide : (mn mx : ℕ) (us bytes : List ℕ) → text_bytes mn mx us ≡ Ok bytes → length bytes ≡ 2 * mx
text_wide mn mx us bytes e =
    let are = text_are mn mx us bytes e in
    let sized = length_spelled 2 us in
    ap (length {A = ℕ}) are.0 ∙ filled_length (2 * mx) (spelled 2 us) (omega (arith, sized, are.1))

utf8_wide : (mn mx : ℕ) (given bytes : List ℕ) → fits_type (text mn mx) (utf8 given) ≡ Ok bytes → length bytes ≡ 2 * mx
utf8_wide mn mx given bytes e = elim (cases_Bool (is_text given)) [
  | inl fine ↦ text_wide mn mx (chars given) bytes (sym (rw fine refl) ∙ e)
  | inr bad ↦ let none : ◌≡◌ {A = Result (List ℕ) DenialKind} (Err BadText) (Ok bytes) = sym (rw bad refl) ∙ e in absurd (cc)
]

-- what a field takes are as many bytes as it has
pub wide : (t : FieldType) (offer : Offer) (bytes : List ℕ) → fits_type t offer ≡ Ok bytes → length bytes ≡ size_of_type t
wide checkbox (whole n) bytes e = (checkbox_kept n bytes e).1
wide checkbox (raw bits) bytes e = (bits_kept bits bytes e).1
wide (numeric signed w mn mx) (whole n) bytes e = numeric_wide signed w mn mx (bits_of signed w n) bytes e
wide (numeric signed w mn mx) (raw bits) bytes e = numeric_wide signed w mn mx (fitting_bits w bits) bytes e
wide (one_of w vs) (whole n) bytes e = one_of_wide w vs n bytes e
wide (one_of w vs) (raw bits) bytes e = one_of_wide w vs (pos bits) bytes e
wide (text mn mx) (utf8 given) bytes e = utf8_wide mn mx given bytes e
wide (text mn mx) (units given) bytes e = text_wide mn mx (items_in 2 given) bytes e
wide (ordered_list w most unique some vs) (listed ns) bytes e = (list_kept w most unique some vs ns bytes e).1
wide (ordered_list w most unique some vs) (elements given) bytes e = (list_kept w most unique some vs (items_in w given) bytes e).1
wide t offer bytes e = absurd (cc)
