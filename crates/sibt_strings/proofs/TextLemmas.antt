-- Texts are found unit by unit, and text by text.
use Rattle.std.proofs.Common.{◌≡◌, ◌⊎◌, inl, inr, ℕ, zero, suc, ◌+◌, ◌-◌, ◌<◌, ◌≤◌, ◌%◌, ◌==◌, ◌&&◌, if◌then◌else◌, Bool, true, false, List, [], ◌∷◌, ◌++◌, length, take, drop, get_or, Option, None, Some, refl, ap, sym, ◌∙◌, subst, arith, append_assoc, length-append}
use Rattle.std.specs.Option.{option_map, is_some}
use Rattle.std.specs.List.{slice_get}
use Rattle.std.proofs.lemmas.Bool.{cases_Bool, eqb-true, false≢true}
use Rattle.std.proofs.lemmas.List.{append-nil, drop-drop, length-drop, take_at}
use Rattle.hii_bytes.specs.Numbers.{number_in}
use Rattle.hii_bytes.proofs.NumberLemmas.{number_in-drop}
use Rattle.browser_rules.specs.Strings.{cut_text, cut_texts}
use Rattle.sibt_strings.specs.code.Texts.{AreUnits, IsRest, behind_front}
use Rattle.sibt_strings.specs.code.Views.{EndsWith, whole_texts}

-- a unit that is not zero goes to the front
pub rest_more : (bytes rest : List ℕ) → IsRest bytes rest → 2 ≤ length rest → ((get_or rest 0 0 == 0) && (get_or rest 1 0 == 0)) ≡ false → IsRest bytes (drop 2 rest)
unfolding cut_text
rest_more bytes [] r two some = absurd (omega arith)
rest_more bytes (low ∷ []) r two some = absurd (omega arith)
rest_more bytes (low ∷ high ∷ rest) r two some = record {
  front = r.front ++ low ∷ high ∷ [];
  parts = r.parts ∙ sym (append_assoc r.front (low ∷ high ∷ []) rest);
  even = omega (arith, r.even, length-append r.front (low ∷ high ∷ []));
  text = joined (cut_text rest) ∙ sym (ap (behind_front r.front) here) ∙ r.text;
}
  where
    here : cut_text (low ∷ high ∷ rest) ≡ option_map (λ t. (low ∷ high ∷ t.0, t.1)) (cut_text rest)
    here = rw some refl

    joined : (t : Option (List ℕ × List ℕ)) → behind_front (r.front ++ low ∷ high ∷ []) t ≡ behind_front r.front (option_map (λ t. (low ∷ high ∷ t.0, t.1)) t)
    joined None = refl
    joined (Some t) = ap (λ x. Some (x, t.1)) (append_assoc r.front (low ∷ high ∷ []) t.0)

-- ---- several units that are not zero

both : (a b : Bool) → a && b ≡ true → (a ≡ true) × (b ≡ true)
both true b e = (refl, e)
both false b e = absurd (false≢true e)

not_zero : (bytes : List ℕ) → 2 ≤ length bytes → (number_in bytes 0 2 ≡ 0 → ⊥) → ((get_or bytes 0 0 == 0) && (get_or bytes 1 0 == 0)) ≡ false
unfolding number_in
not_zero [] two some = absurd (omega arith)
not_zero (low ∷ []) two some = absurd (omega arith)
not_zero (low ∷ high ∷ rest) two some = elim (cases_Bool ((low == 0) && (high == 0))) [
  | inl zeros ↦
      let parts = both (low == 0) (high == 0) zeros in
      absurd (some (ap (λ (l : ℕ). number_in (l ∷ high ∷ rest) 0 2) (eqb-true low 0 parts.0) ∙ ap (λ (h : ℕ). number_in (0 ∷ h ∷ rest) 0 2) (eqb-true high 0 parts.1)))
  | inr other ↦ other
]

pub one_unit : (bytes : List ℕ) (at : ℕ) → at + 2 ≤ length bytes → (number_in bytes at 2 ≡ 0 → ⊥) → AreUnits bytes at (at + 2)
one_unit bytes at within some =
    let long : 2 ≤ length (drop at bytes) = omega (arith, within, length-drop at bytes) in
    let here : number_in (drop at bytes) 0 2 ≡ number_in bytes at 2 = number_in-drop bytes at 0 2 ∙ ap (λ (k : ℕ). number_in bytes k 2) (omega arith) in
    record { within = within; passed = λ text r. subst (IsRest text) (drop-drop 2 at bytes) (rest_more text (drop at bytes) r long (not_zero (drop at bytes) long (λ zero. some (sym here ∙ zero)))) }

pub more_units : (bytes : List ℕ) (at mid to : ℕ) → AreUnits bytes at mid → AreUnits bytes mid to → AreUnits bytes at to
more_units bytes at mid to first second = record { within = second.within; passed = λ text r. second.passed text (first.passed text r) }

-- the zero unit ends the text
pub rest_found : (bytes rest : List ℕ) (r : IsRest bytes rest) → 2 ≤ length rest → get_or rest 0 0 ≡ 0 → get_or rest 1 0 ≡ 0 → cut_text bytes ≡ Some (r.front, drop 2 rest)
unfolding cut_text
rest_found bytes [] r two low_zero high_zero = absurd (omega arith)
rest_found bytes (low ∷ []) r two low_zero high_zero = absurd (omega arith)
rest_found bytes (low ∷ high ∷ rest) r two low_zero high_zero =
    let here : cut_text (low ∷ high ∷ rest) ≡ Some ([], rest) = rw (low_zero, high_zero) refl in
    sym r.text ∙ ap (behind_front r.front) here ∙ ap (λ front. Some (front, rest)) (append-nil r.front)

-- no zero unit stands in less than two bytes
pub rest_none : (bytes rest : List ℕ) → IsRest bytes rest → length rest < 2 → cut_text bytes ≡ None
unfolding cut_text
rest_none bytes rest r short = sym r.text ∙ ap (behind_front r.front) (none rest short)
  where
    none : (xs : List ℕ) → length xs < 2 → cut_text xs ≡ None
    none [] lt = refl
    none (x ∷ []) lt = refl
    none (x ∷ y ∷ xs) lt = absurd (omega arith)

-- the bytes before the rest
pub rest_front : (bytes rest : List ℕ) (r : IsRest bytes rest) → take (length bytes - length rest) bytes ≡ r.front
rest_front bytes rest r =
    let size : length bytes - length rest ≡ length r.front = omega (arith, ap length r.parts, length-append r.front rest) in
    ap (λ n. take n bytes) size ∙ ap (take (length r.front)) r.parts ∙ take_at r.front rest (length r.front) refl

-- the bytes behind this many texts
abbrev pub rest_of_texts : ℕ → List ℕ → Option (List ℕ)
rest_of_texts n bytes = option_map (λ t. t.1) (cut_texts n bytes)

-- behind the first text stand the others
pub rest_of_texts-found : (n m : ℕ) (bytes text rest : List ℕ) → n ≡ suc m → cut_text bytes ≡ Some (text, rest) → rest_of_texts n bytes ≡ rest_of_texts m rest
unfolding cut_texts
rest_of_texts-found n m bytes text rest count e = ap (λ k. rest_of_texts k bytes) count ∙ rw e (go (cut_texts m rest))
  where
    go : (t : Option (List (List ℕ) × List ℕ)) → option_map (λ (x : List (List ℕ) × List ℕ). x.1) (option_map (λ (ts : List (List ℕ) × List ℕ). (text ∷ ts.0, ts.1)) t) ≡ option_map (λ (x : List (List ℕ) × List ℕ). x.1) t
    go None = refl
    go (Some t) = refl

pub rest_of_texts-none : (n m : ℕ) (bytes : List ℕ) → n ≡ suc m → cut_text bytes ≡ None → rest_of_texts n bytes ≡ None
unfolding cut_texts
rest_of_texts-none n m bytes count e = ap (λ k. rest_of_texts k bytes) count ∙ rw e refl

pub rest_of_texts-all : (n : ℕ) (bytes : List ℕ) → n ≡ 0 → rest_of_texts n bytes ≡ Some bytes
unfolding cut_texts
rest_of_texts-all n bytes count = ap (λ k. rest_of_texts k bytes) count

pub cases_option : {A : Type 0} (o : Option A) → (o ≡ None) ⊎ ((x : A) × (o ≡ Some x))
cases_option None = inl refl
cases_option (Some x) = inr (x, refl)

pub texts_none : (n : ℕ) (bytes : List ℕ) → cut_text bytes ≡ None → cut_texts (suc n) bytes ≡ None
unfolding cut_texts
texts_none n bytes e = rw e refl

-- the others stand behind the first
pub texts_first : (n : ℕ) (bytes text behind : List ℕ) → cut_text bytes ≡ Some (text, behind) → cut_texts (suc n) bytes ≡ option_map (λ ts. (text ∷ ts.0, ts.1)) (cut_texts n behind)
unfolding cut_texts
texts_first n bytes text behind e = rw e refl

texts_cons : (n : ℕ) (bytes : List ℕ) (t : List ℕ × List ℕ) (ts : List (List ℕ) × List ℕ) → cut_text bytes ≡ Some t → cut_texts n t.1 ≡ Some ts → cut_texts (suc n) bytes ≡ Some (t.0 ∷ ts.0, ts.1)
unfolding cut_texts
texts_cons n bytes t ts e f = rw (e, f) refl

texts_cons_none : (n : ℕ) (bytes : List ℕ) (t : List ℕ × List ℕ) → cut_text bytes ≡ Some t → cut_texts n t.1 ≡ None → cut_texts (suc n) bytes ≡ None
unfolding cut_texts
texts_cons_none n bytes t e f = rw (e, f) refl

-- the first of several whole texts, and the others
pub texts_split : (n : ℕ) (bytes : List ℕ) → is_some (cut_texts (suc n) bytes) ≡ true →
    (t : List ℕ × List ℕ) × (ts : List (List ℕ) × List ℕ) × (cut_text bytes ≡ Some t) × (cut_texts n t.1 ≡ Some ts) × (cut_texts (suc n) bytes ≡ Some (t.0 ∷ ts.0, ts.1))
texts_split n bytes whole = elim (cases_option (cut_text bytes)) [
  | inl none ↦ absurd (false≢true (sym (ap is_some (texts_none n bytes none)) ∙ whole))
  | inr t ↦ elim (cases_option (cut_texts n t.0.1)) [
    | inl none ↦ absurd (false≢true (sym (ap is_some (texts_cons_none n bytes t.0 t.1 none)) ∙ whole))
    | inr ts ↦ (t.0, ts.0, t.1, ts.1, texts_cons n bytes t.0 ts.0 t.1 ts.1)
  ]
]

-- one of several whole texts
nth_text_found : (n i : ℕ) (bytes : List ℕ) → i < n → is_some (cut_texts n bytes) ≡ true →
    (rest : List ℕ) × (text : List ℕ × List ℕ) × (rest_of_texts i bytes ≡ Some rest) × (cut_text rest ≡ Some text) × (slice_get (whole_texts (cut_texts n bytes)) i ≡ Some text.0)
nth_text_found zero i bytes lt whole = absurd (omega arith)
nth_text_found (suc n) zero bytes lt whole =
    let s = texts_split n bytes whole in
    (bytes, s.0, rest_of_texts-all 0 bytes refl, s.2, ap (λ t. slice_get (whole_texts t) 0) s.4)
nth_text_found (suc n) (suc i) bytes lt whole =
    let s = texts_split n bytes whole in
    let r = nth_text_found n i s.0.1 (omega arith) (ap is_some s.3) in (
      r.0,
      r.1,
      rest_of_texts-found (suc i) i bytes s.0.0 s.0.1 refl s.2 ∙ r.2,
      r.3,
      ap (λ t. slice_get (whole_texts t) (suc i)) s.4 ∙ sym (ap (λ t. slice_get (whole_texts t) i) s.3) ∙ r.4,
    )

pub nth_rest : (n i : ℕ) (bytes : List ℕ) → i < n → is_some (cut_texts n bytes) ≡ true → is_some (rest_of_texts i bytes) ≡ true
nth_rest n i bytes lt whole = ap is_some (nth_text_found n i bytes lt whole).2

-- one of several whole texts, by what was read
pub nth_text_read : (n i : ℕ) (bytes rest : List ℕ) → i < n → is_some (cut_texts n bytes) ≡ true → rest_of_texts i bytes ≡ Some rest →
    (text : List ℕ × List ℕ) × (cut_text rest ≡ Some text) × (slice_get (whole_texts (cut_texts n bytes)) i ≡ Some text.0)
nth_text_read n i bytes rest lt whole read =
    let f = nth_text_found n i bytes lt whole in
    let same : f.0 ≡ rest = cc in
    (f.1, subst (λ r. cut_text r ≡ Some f.1) same f.3, f.4)

-- whole texts are as many as they are counted
pub length-whole_texts : (n : ℕ) (bytes : List ℕ) → is_some (cut_texts n bytes) ≡ true → length (whole_texts (cut_texts n bytes)) ≡ n
unfolding cut_texts
length-whole_texts zero bytes whole = refl
length-whole_texts (suc n) bytes whole =
    let s = texts_split n bytes whole in
    ap (λ t. length (whole_texts t)) s.4 ∙ ap suc (sym (ap (λ t. length (whole_texts t)) s.3) ∙ length-whole_texts n s.0.1 (ap is_some s.3))

pub same_some : {B : Type 0} (x y : B) → Some x ≡ Some y → x ≡ y
same_some x y e = cc

-- what a mapped option that is there comes from
pub some_of_map : {A B : Type 0} (f : A → B) (o : Option A) (y : B) → option_map f o ≡ Some y → (x : A) × (o ≡ Some x) × (f x ≡ y)
some_of_map f None y e = absurd (none_some y e)
  where
    none_some : {B : Type 0} (y : B) → None ≡ Some y → ⊥
    none_some y e = cc
some_of_map f (Some x) y e = (x, refl, same_some (f x) y e)

none_cut : (text rest : List ℕ) → ◌≡◌ {A = Option (List ℕ × List ℕ)} None (Some (text, rest)) → ⊥
none_cut text rest e = cc

-- the bytes behind a text stand at the end
pub cut_ends : (bytes text rest : List ℕ) → cut_text bytes ≡ Some (text, rest) → EndsWith bytes rest
unfolding cut_text
cut_ends [] text rest e = absurd (none_cut text rest e)
cut_ends (low ∷ []) text rest e = absurd (none_cut text rest e)
cut_ends (low ∷ high ∷ more) text rest e = step ((low == 0) && (high == 0)) (cut_text more) (λ x y f. cut_ends more x y f) e
  where
    step : (z : Bool) (t : Option (List ℕ × List ℕ)) → ((x y : List ℕ) → ◌≡◌ {A = Option (List ℕ × List ℕ)} t (Some (x, y)) → EndsWith more y)
        → ◌≡◌ {A = Option (List ℕ × List ℕ)} (if z then Some ([], more) else option_map (λ t. (low ∷ high ∷ t.0, t.1)) t) (Some (text, rest)) → EndsWith (low ∷ high ∷ more) rest
    step true t ends e =
        let same : more ≡ rest = ap (λ (p : List ℕ × List ℕ). p.1) (same_some ([], more) (text, rest) e) in
        record { front = low ∷ high ∷ []; parts = ap (λ b. low ∷ high ∷ b) same }
    step false None ends e = absurd (none_cut text rest e)
    step false (Some t) ends e =
        let same : t.1 ≡ rest = ap (λ (p : List ℕ × List ℕ). p.1) (same_some (low ∷ high ∷ t.0, t.1) (text, rest) e) in
        let r = ends t.0 t.1 refl in
        record { front = low ∷ high ∷ r.front; parts = ap (λ b. low ∷ high ∷ b) (r.parts ∙ ap (λ b. r.front ++ b) same) }
