-- Numbers as digits, and what is read of them.
use Rattle.std.proofs.Common.{◌≡◌, ◌&&◌, ℕ, zero, suc, ◌+◌, ◌*◌, ◌^◌, ◌<◌, ◌≤◌, Bool, true, List, [], ◌∷◌, length, take, take_all, get_or, Option, Some, None, refl, sym, ap, subst, ◌∙◌, arith, inl, inr, ltb, leb}
use Rattle.std.specs.Char.{is_digit, digit_value}
use Rattle.std.specs.List.{list_all}
use Rattle.std.specs.Str.Parse.{AllDigits, digits_value}
use Rattle.std.proofs.lemmas.Int.Digits.{digits_value_more}
use Rattle.std.proofs.lemmas.Str.Parse.{digits_value-take-le}
use Rattle.std.proofs.lemmas.Bool.{and_parts, and_from, cases_Bool, cond-true, cond-false, ltb-true, lt-ltb, leb-true, le-leb}
use native.Mathlib.Numerals.{unary_clauses}
use Rattle.hii_bytes.specs.Digits.{IsNumber, number_below}

all_digits-to : (radix : ℕ) (text : List ℕ) → list_all (λ byte. is_digit byte radix) text ≡ true → AllDigits radix text
all_digits-to radix [] e = tt
all_digits-to radix (b ∷ text) e = let p = and_parts _ _ e in (ltb-true _ _ p.0, all_digits-to radix text p.1)

all_digits-from : (radix : ℕ) (text : List ℕ) → AllDigits radix text → list_all (λ byte. is_digit byte radix) text ≡ true
all_digits-from radix [] h = refl
all_digits-from radix (b ∷ text) h = and_from _ _ (lt-ltb _ _ h.0) (all_digits-from radix text h.1)

-- the tests of `number_below`
abbrev tests : ℕ → ℕ → ℕ → List ℕ → Bool
tests limit radix most text =
    ltb 0 (length text) && (list_all (λ byte. is_digit byte radix) text && (leb (length text) most && ltb (digits_value radix text) limit))

pub number_below-from : (limit radix most : ℕ) (text : List ℕ) (n : ℕ) → IsNumber radix most limit text n → number_below limit radix most text ≡ Some n
number_below-from limit radix most text n h =
    let small : digits_value radix text < limit = omega (arith, h.value, h.small) in
    let all : tests limit radix most text ≡ true =
    and_from _ _ (lt-ltb _ _ h.digits.0) (and_from _ _ (all_digits-from radix text h.digits.1) (and_from _ _ (le-leb _ _ h.few) (lt-ltb _ _ small))) in
    cond-true (tests limit radix most text) (Some (digits_value radix text)) None all ∙ ap Some h.value

pub number_below-is : (limit radix most : ℕ) (text : List ℕ) (n : ℕ) → number_below limit radix most text ≡ Some n → IsNumber radix most limit text n
number_below-is limit radix most text n e = elim (cases_Bool (tests limit radix most text)) [
  | inl all ↦
      let some : Some (digits_value radix text) ≡ Some n = sym (cond-true (tests limit radix most text) (Some (digits_value radix text)) None all) ∙ e in
      let value : digits_value radix text ≡ n = cc in
      let p = and_parts _ _ all in
      let q = and_parts _ _ p.1 in
      let r = and_parts _ _ q.1 in
      record {
        digits = (ltb-true _ _ p.0, all_digits-to radix text q.0);
        few = leb-true _ _ r.0;
        value = value;
        small = omega (arith, value, ltb-true _ _ r.1);
      }
  | inr other ↦ let none : ◌≡◌ {A = Option ℕ} None (Some n) = sym (cond-false (tests limit radix most text) (Some (digits_value radix text)) None other) ∙ e in (cc)
]

pub number_below-none : (limit radix most : ℕ) (text : List ℕ) → ((n : ℕ) → IsNumber radix most limit text n → ⊥) → None ≡ number_below limit radix most text
number_below-none limit radix most text none = go (number_below limit radix most text) refl
  where
    go : (o : Option ℕ) → number_below limit radix most text ≡ o → None ≡ o
    go None e = refl
    go (Some n) e = absurd (none n (number_below-is limit radix most text n e))

digit_at : (radix : ℕ) (text : List ℕ) (i : ℕ) → AllDigits radix text → i < length text → digit_value (get_or text i 0) < radix
digit_at radix [] i h inside = absurd (omega (arith, inside))
digit_at radix (b ∷ text) zero h inside = h.0
digit_at radix (b ∷ text) (suc i) h inside = digit_at radix text i h.1 (omega (arith, inside))

one_more : (radix : ℕ) (text : List ℕ) (i : ℕ) → AllDigits radix (take i text) → i < length text → digit_value (get_or text i 0) < radix
    → AllDigits radix (take (i + 1) text)
one_more radix [] i h inside d = absurd (omega (arith, inside))
one_more radix (b ∷ text) zero h inside d = (d, tt)
one_more radix (b ∷ text) (suc i) h inside d = simp unary_clauses (h.0, simp unary_clauses at (one_more radix text i h.1 (omega (arith, inside)) d))

-- a number that was read with one more digit
pub digit_read : (radix : ℕ) (text : List ℕ) (i n : ℕ) → i < length text → AllDigits radix (take i text) × (n ≡ digits_value radix (take i text))
    → digit_value (get_or text i 0) < radix
    → AllDigits radix (take (i + 1) text) × (n * radix + digit_value (get_or text i 0) ≡ digits_value radix (take (i + 1) text))
digit_read radix text i n inside so_far d =
    (one_more radix text i so_far.0 inside d, rw so_far.1 (sym (digits_value_more radix text i inside)))

-- a byte after which there is no number below the limit
pub digit_refused : (radix most : ℕ) (text : List ℕ) (i n : ℕ) → 1 ≤ radix → i < length text → n ≡ digits_value radix (take i text)
    → ((digit_value (get_or text i 0) < radix) × (n * radix + digit_value (get_or text i 0) < 2 ^ 64) → ⊥)
    → None ≡ number_below (2 ^ 64) radix most text
digit_refused radix most text i n some inside so_far refused =
    number_below-none (2 ^ 64) radix most text (λ m is.
    let value : n * radix + digit_value (get_or text i 0) ≡ digits_value radix (take (i + 1) text) = rw so_far (sym (digits_value_more radix text i inside)) in
    let most_of : digits_value radix (take (i + 1) text) ≤ digits_value radix text = digits_value-take-le radix text (i + 1) some in
    refused (digit_at radix text i is.digits.1 inside, omega (arith, value, most_of, is.value, is.small)))

-- digits that were all read
pub digits_read : (radix most : ℕ) (text : List ℕ) (i n : ℕ) → 0 < length text → length text ≤ most → length text ≤ i
    → AllDigits radix (take i text) × (n ≡ digits_value radix (take i text)) → n < 2 ^ 64
    → Some n ≡ number_below (2 ^ 64) radix most text
digits_read radix most text i n some few end so_far small =
    let all : take i text ≡ text = take_all i text end in
    sym (number_below-from (2 ^ 64) radix most text n (record {
      digits = (some, subst (AllDigits radix) all so_far.0);
      few = few;
      value = sym (so_far.1 ∙ ap (digits_value radix) all);
      small = small;
    }))
