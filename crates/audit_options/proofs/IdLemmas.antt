-- Ids as they are read.
use Rattle.std.proofs.Common.{◌≡◌, ◌∙◌, ◌++◌, ◌∷◌, ◌&&◌, ◌^◌, ◌<◌, ℕ, Bool, List, [], Some, Result, Ok, Err, true, false, ap, drop, length, ltb, refl, sym, take, inl, inr}
use Rattle.std.proofs.lemmas.Bool.{and_from, and_parts, cases_Bool, lt-ltb, ltb-true}
use Rattle.std.proofs.lemmas.List.{take-append-drop}
use Rattle.std.proofs.lemmas.Slice.Eq.{bytes_eq-Decides}
use Rattle.std.specs.Char.{is_digit}
use Rattle.std.specs.List.{list_all}
use Rattle.std.specs.Result.{OkIff, result_ok}
use Rattle.std.specs.Str.{bytes_eq}
use Rattle.std.specs.Str.Parse.{AllDigits, IsNumeral, digits_value}
use Rattle.audit_options.specs.Ids.{small_number}

all_digits-to : (radix : ℕ) (digits : List ℕ) → list_all (λ digit. is_digit digit radix) digits ≡ true → AllDigits radix digits
all_digits-to radix [] e = tt
all_digits-to radix (d ∷ digits) e = let p = and_parts _ _ e in (ltb-true _ _ p.0, all_digits-to radix digits p.1)

all_digits-from : (radix : ℕ) (digits : List ℕ) → AllDigits radix digits → list_all (λ digit. is_digit digit radix) digits ≡ true
all_digits-from radix [] h = refl
all_digits-from radix (d ∷ digits) h = and_from _ _ (lt-ltb _ _ h.0) (all_digits-from radix digits h.1)

-- the tests of `small_number`
abbrev is_small : ℕ → List ℕ → Bool
is_small radix digits = ltb 0 (length digits) && (list_all (λ digit. is_digit digit radix) digits && ltb (digits_value radix digits) 65536)

abbrev Small : ℕ → List ℕ → Type 0
Small radix digits = IsNumeral radix digits × (digits_value radix digits < 2 ^ 16)

small-from : (radix : ℕ) (digits : List ℕ) → Small radix digits → is_small radix digits ≡ true
small-from radix digits h = and_from _ _ (lt-ltb _ _ h.0.0) (and_from _ _ (all_digits-from radix digits h.0.1) (lt-ltb _ _ h.1))

small-to : (radix : ℕ) (digits : List ℕ) → is_small radix digits ≡ true → Small radix digits
small-to radix digits e =
    let p = and_parts _ _ e in
    let q = and_parts _ _ p.1 in
    ((ltb-true _ _ p.0, all_digits-to radix digits q.0), ltb-true _ _ q.1)

-- what is read of digits is their number
pub parsed_small : {E : Type 0} (radix : ℕ) (digits : List ℕ) (r : Result ℕ E) → OkIff r (Small radix digits) (digits_value radix digits) → result_ok r ≡ small_number radix digits
parsed_small radix digits (Ok n) h = rw (small-from radix digits h.0) (ap (λ n. Some n) h.1)
parsed_small radix digits (Err e) h = elim (cases_Bool (is_small radix digits)) [
  | inl small ↦ absurd (h (small-to radix digits small))
  | inr other ↦ rw other refl
]

-- a text that does not begin with two bytes
pub begins_not : (text front : List ℕ) → ((rest : List ℕ) → text ≡ front ++ rest → ⊥) → bytes_eq (take (length front) text) front ≡ false
begins_not text front none = elim (cases_Bool (bytes_eq (take (length front) text) front)) [
  | inl same ↦ absurd (none (drop (length front) text) (sym (take-append-drop (length front) text) ∙ ap (λ l. l ++ drop (length front) text) ((bytes_eq-Decides (take (length front) text) front).0 same)))
  | inr other ↦ other
]
