-- Lists of numbers as a text.
use Rattle.std.proofs.Common.{◌≡◌, ◌==◌, ℕ, ◌+◌, ◌^◌, ◌<◌, Bool, true, false, List, [], ◌∷◌, length, map, take, drop, Option, Some, None, is_some, refl, sym, ap, subst, ◌∙◌, arith, inl, inr}
use Rattle.std.specs.Bool.{Decides}
use Rattle.std.specs.Char.{digit_value}
use Rattle.std.specs.List.{All, AllZip, join_with_byte, list_all, position, position_or_len, slice_split}
use Rattle.std.specs.Str.Parse.{AllDigits, digits_value}
use Rattle.std.proofs.lemmas.Bool.{and_parts, and_from, cond-true, cond-false, cases_lt, ne_eqb, lt-ltb, le-ltb}
use Rattle.std.proofs.lemmas.List.Elements.{All-nil, All-cons}
use Rattle.std.proofs.lemmas.List.Sums.{fails_before_first}
use Rattle.std.proofs.lemmas.List.Splits.{slice_split_none, slice_split_at, slice_split_first, join_with_byte-slice_split}
use Rattle.hii_bytes.specs.Digits.{number_below}
use Rattle.hii_bytes.specs.NumberList.{IsElement, IsNumberList, IsList, elements_of, numbers_of, is_element, is_number_list}
use Rattle.hii_bytes.proofs.DigitLemmas.{number_below-from, number_below-is}

abbrev is_comma : ℕ → Bool
is_comma byte = byte == 44

-- ---- from the relation

-- digits have no comma
no_comma : (text : List ℕ) → AllDigits 10 text → All (λ b. is_comma b ≡ false) text
no_comma [] h = All-nil (λ b. is_comma b ≡ false)
no_comma (b ∷ text) h =
    All-cons (λ x. is_comma x ≡ false) b text (ne_eqb b 44 (λ e. let bad : digit_value 44 < 10 = subst (λ x. digit_value x < 10) e h.0 in omega (arith, bad))) (no_comma text h.1)

-- elements with a comma between are cut into these elements
cut_joined : (element : List ℕ) (elements : List (List ℕ)) (n : ℕ) (numbers : List ℕ) → IsElement element n → AllZip IsElement elements numbers
    → slice_split is_comma (join_with_byte 44 (element ∷ elements)) ≡ element ∷ elements
cut_joined element [] n numbers h hs = slice_split_none is_comma element (no_comma element h.digits.1)
cut_joined element (next ∷ elements) n [] h hs = absurd hs
cut_joined element (next ∷ elements) n (m ∷ numbers) h hs =
    slice_split_at is_comma element 44 (join_with_byte 44 (next ∷ elements)) (no_comma element h.digits.1) refl
    ∙ ap (λ l. element ∷ l) (cut_joined next elements m numbers hs.0 hs.1)

-- a text that is not empty
elements_of-some : (text : List ℕ) → 0 < length text → elements_of text ≡ slice_split is_comma text
elements_of-some [] h = absurd (omega (arith, h))
elements_of-some (b ∷ text) h = refl

joined_some : (element : List ℕ) (elements : List (List ℕ)) → 0 < length element → 0 < length (join_with_byte 44 (element ∷ elements))
joined_some [] elements h = absurd (omega (arith, h))
joined_some (b ∷ element) [] h = h
joined_some (b ∷ element) (next ∷ elements) h = omega arith

elements_of-joined : (elements : List (List ℕ)) (numbers : List ℕ) → AllZip IsElement elements numbers → elements_of (join_with_byte 44 elements) ≡ elements
elements_of-joined [] numbers hs = refl
elements_of-joined (element ∷ elements) [] hs = absurd hs
elements_of-joined (element ∷ elements) (n ∷ numbers) hs =
    elements_of-some (join_with_byte 44 (element ∷ elements)) (joined_some element elements hs.0.digits.0) ∙ cut_joined element elements n numbers hs.0 hs.1

values : (elements : List (List ℕ)) (numbers : List ℕ) → AllZip IsElement elements numbers → map (digits_value 10) elements ≡ numbers
values [] [] hs = refl
values [] (n ∷ numbers) hs = absurd hs
values (element ∷ elements) [] hs = absurd hs
values (element ∷ elements) (n ∷ numbers) hs = let value : digits_value 10 element ≡ n = hs.0.value in ap (λ m. m ∷ map (digits_value 10) elements) value ∙ ap (λ l. n ∷ l) (values elements numbers hs.1)

are_elements : (elements : List (List ℕ)) (numbers : List ℕ) → AllZip IsElement elements numbers → list_all is_element elements ≡ true
are_elements [] numbers hs = refl
are_elements (element ∷ elements) [] hs = absurd hs
are_elements (element ∷ elements) (n ∷ numbers) hs =
    and_from _ _ (ap is_some (number_below-from (2 ^ 64) 10 20 element n hs.0)) (are_elements elements numbers hs.1)

-- the relation gives the function
pub numbers_of-is : (text numbers : List ℕ) → IsNumberList text numbers → numbers_of text ≡ numbers
numbers_of-is text numbers (elements, whole, hs) =
    ap numbers_of whole ∙ ap (map (digits_value 10)) (elements_of-joined elements numbers hs) ∙ values elements numbers hs

-- and the test
pub list-from : (text numbers : List ℕ) → IsNumberList text numbers → is_number_list text ≡ true
list-from text numbers (elements, whole, hs) =
    ap is_number_list whole ∙ ap (list_all is_element) (elements_of-joined elements numbers hs) ∙ are_elements elements numbers hs

pub listed : (text : List ℕ) → IsList text → is_number_list text ≡ true
listed text h = list-from text (numbers_of text) h

-- ---- from the test

element-is : (text : List ℕ) → is_element text ≡ true → IsElement text (digits_value 10 text)
element-is text e = go (number_below (2 ^ 64) 10 20 text) refl
  where
    go : (o : Option ℕ) → number_below (2 ^ 64) 10 20 text ≡ o → IsElement text (digits_value 10 text)
    go None is = let bad : false ≡ true = sym (ap is_some is) ∙ e in (cc)
    go (Some n) is = let number = number_below-is (2 ^ 64) 10 20 text n is in subst (IsElement text) (sym number.value) number

elements-are : (elements : List (List ℕ)) → list_all is_element elements ≡ true → AllZip IsElement elements (map (digits_value 10) elements)
elements-are [] e = tt
elements-are (element ∷ elements) e = let p = and_parts _ _ e in (element-is element p.0, elements-are elements p.1)

elements_of-together : (text : List ℕ) → text ≡ join_with_byte 44 (elements_of text)
elements_of-together [] = refl
elements_of-together (b ∷ text) = sym (join_with_byte-slice_split 44 (b ∷ text))

pub list-is : (text : List ℕ) → is_number_list text ≡ true → IsList text
list-is text e = (elements_of text, elements_of-together text, elements-are (elements_of text) e)

-- ---- the first number

-- a list is its first element and the list of the others
pub record IsFirst (text element rest : List ℕ) : Type 0 where
  pub first : is_element element ≡ true
  pub others : is_number_list rest ≡ true
  pub numbers : numbers_of text ≡ digits_value 10 element ∷ numbers_of rest

place_of : (text : List ℕ) (end : ℕ) → position is_comma text ≡ Some end → (position_or_len is_comma text ≡ end) × (end < length text)
place_of text end e =
    let at = position_or_len is_comma text in
    elim (cases_lt at (length text)) [
      | inl less ↦ let some : Some at ≡ Some end = sym (cond-true _ (Some at) None (lt-ltb _ _ less)) ∙ e in
          let same : at ≡ end = cc in (same, omega (arith, same, less))
      | inr all ↦ let none : ◌≡◌ {A = Option ℕ} None (Some end) = sym (cond-false _ (Some at) None (le-ltb _ _ all)) ∙ e in (cc)
    ]

-- what follows a comma of a list is not empty
followed : (rest : List ℕ) → list_all is_element (slice_split is_comma rest) ≡ true → elements_of rest ≡ slice_split is_comma rest
followed [] e = let bad : false ≡ true = e in (cc)
followed (b ∷ rest) e = refl

pub first_at : (text : List ℕ) (end : ℕ) → is_number_list text ≡ true → position is_comma text ≡ Some end → IsFirst text (take end text) (drop (end + 1) text)
first_at text end list e =
    let place = place_of text end e in
    let less : position_or_len is_comma text < length text = omega (arith, place.0, place.1) in
    let cut : slice_split is_comma text ≡ take end text ∷ slice_split is_comma (drop (end + 1) text) =
    slice_split_first is_comma text 0 less ∙ ap (λ k. take k text ∷ slice_split is_comma (drop (k + 1) text)) place.0 in
    let some : 0 < length text = omega (arith, place.1) in
    let whole = elements_of-some text some ∙ cut in
    let p = and_parts _ _ (sym (ap (list_all is_element) whole) ∙ list) in
    let same = followed (drop (end + 1) text) p.1 in
    record {
      first = p.0;
      others = ap (list_all is_element) same ∙ p.1;
      numbers = ap (map (digits_value 10)) whole ∙ sym (ap (λ l. digits_value 10 (take end text) ∷ map (digits_value 10) l) same);
    }

pub first_whole : (text : List ℕ) → is_number_list text ≡ true → 0 < length text → position is_comma text ≡ None → IsFirst text text []
first_whole text list some e =
    let at = position_or_len is_comma text in
    let lacks : All (λ b. is_comma b ≡ false) text = elim (cases_lt at (length text)) [
      | inl less ↦ let bad : ◌≡◌ {A = Option ℕ} (Some at) None = sym (cond-true _ (Some at) None (lt-ltb _ _ less)) ∙ e in (cc)
      | inr all ↦ λ k d m. fails_before_first is_comma text k d (omega (arith, all, m))
    ] in
    let whole = elements_of-some text some ∙ slice_split_none is_comma text lacks in
    let p = and_parts _ _ (sym (ap (list_all is_element) whole) ∙ list) in
    record { first = p.0; others = refl; numbers = ap (map (digits_value 10)) whole }

-- ---- the test, over the parts of a text that is not empty

pub list_of_parts : (text : List ℕ) → (length text == 0) ≡ false → list_all is_element (slice_split is_comma text) ≡ is_number_list text
list_of_parts [] e = let bad : true ≡ false = e in (cc)
list_of_parts (b ∷ text) e = refl

pub decides : (text : List ℕ) → Decides (is_number_list text) (IsList text)
decides text = (list-is text, listed text)
