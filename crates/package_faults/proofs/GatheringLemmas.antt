-- The faults of things whose places rise, one thing after the other, are all their faults in order.
use Rattle.std.proofs.Common.{◌≡◌, ◌⊎◌, ℕ, zero, suc, ◌+◌, ◌≤◌, Bool, true, false, List, [], ◌∷◌, ◌++◌, refl, sym, ap, subst, ◌∙◌, arith, inl, inr}
use Rattle.std.specs.Prelude.{Contains}
use Rattle.std.specs.List.{AllByRecursion}
use Rattle.std.proofs.lemmas.Bool.{cases_Bool}
use Rattle.std.proofs.lemmas.List.Elements.{Contains-append_cases, Contains-append_left, Contains-append_right}
use Rattle.hii_bytes.specs.Cause.{number_of}
use Rattle.hii_bytes.specs.Faults.{IsFaultOf}
use Rattle.hii_bytes.specs.code.FirstFaults as first
use Rattle.hii_bytes.specs.code.FirstFaults.{Rise}
use Rattle.hii_bytes.specs.declared.cause.Cause.{Cause}
use Rattle.hii_bytes.specs.declared.cause.Fault.{Fault}
use Rattle.package_faults.specs.AllFaults.{AreAll, AreInOrder, IsBefore, fault_of}
use Rattle.package_faults.specs.code.Gathering.{its_faults, all_faults, where_it_is}

-- ---- lists

AllByRecursion-append : {X : Type 0} (P : X → Type 0) (xs ys : List X) → AllByRecursion P xs → AllByRecursion P ys → AllByRecursion P (xs ++ ys)
AllByRecursion-append P [] ys a b = b
AllByRecursion-append P (x ∷ xs) ys a b = (a.0, AllByRecursion-append P xs ys a.1 b)

weaker : {X : Type 0} (P Q : X → Type 0) (xs : List X) → ((x : X) → P x → Q x) → AllByRecursion P xs → AllByRecursion Q xs
weaker P Q [] h a = tt
weaker P Q (x ∷ xs) h a = (h x a.0, weaker P Q xs h a.1)

-- what comes before all of a second list
in_order_append : (xs ys : List Fault) → AreInOrder xs → AreInOrder ys → AllByRecursion (λ f. AllByRecursion (IsBefore f) ys) xs → AreInOrder (xs ++ ys)
in_order_append [] ys a b before = b
in_order_append (x ∷ xs) ys a b before = (AllByRecursion-append (IsBefore x) xs ys a.0 before.0, in_order_append xs ys a.1 b before.1)

-- ---- the faults of one thing

module _ {X : Type 0} (place : X → ℕ) (has : X → Cause → Bool) where
  -- a cause of it is among them
  its_told : (x : X) (causes : List Cause) (cause : Cause) → Contains causes cause → has x cause ≡ true → Contains (its_faults place has causes x) (fault_of cause (place x))
  its_told x [] cause (k, lt, e) is = absurd (omega arith)
  its_told x (c ∷ causes) cause (zero, lt, e) is = let here : has x c ≡ true = ap (has x) e ∙ is in rw here (0, omega arith, λ i. fault_of (e i) (place x))
  its_told x (c ∷ causes) cause (suc k, lt, e) is = further (its_told x causes cause (k, omega arith, e) is) (cases_Bool (has x c))
    where
      further : Contains (its_faults place has causes x) (fault_of cause (place x)) → (has x c ≡ true) ⊎ (has x c ≡ false) → Contains (its_faults place has (c ∷ causes) x) (fault_of cause (place x))
      further (j, low, same) (inl here) = rw here (suc j, omega arith, same)
      further (j, low, same) (inr other) = rw other (j, low, same)

  -- and what is among them is one of it
  its_own : (x : X) (causes : List Cause) (f : Fault) → Contains (its_faults place has causes x) f → (place x ≡ f.place) × (has x f.cause ≡ true)
  its_own x [] f (k, lt, e) = absurd (omega arith)
  its_own x (c ∷ causes) f within = go (λ later. its_own x causes f later) (cases_Bool (has x c)) within
    where
      first_or : (Contains (its_faults place has causes x) f → (place x ≡ f.place) × (has x f.cause ≡ true)) → has x c ≡ true → Contains (fault_of c (place x) ∷ its_faults place has causes x) f → (place x ≡ f.place) × (has x f.cause ≡ true)
      first_or later here (zero, lt, e) = (ap (λ (g : Fault). g.place) e, ap (λ (g : Fault). has x g.cause) (sym e) ∙ here)
      first_or later here (suc k, lt, e) = later (k, omega arith, e)

      go : (Contains (its_faults place has causes x) f → (place x ≡ f.place) × (has x f.cause ≡ true)) → (has x c ≡ true) ⊎ (has x c ≡ false) → Contains (its_faults place has (c ∷ causes) x) f → (place x ≡ f.place) × (has x f.cause ≡ true)
      go later (inl here) w = first_or later here (rw here at w)
      go later (inr other) w = later (rw other at w)

  -- all are at its place, and none has a number below the least
  its_above : (x : X) (low : ℕ) (causes : List Cause) → Rise number_of low causes → AllByRecursion (λ f. (f.place ≡ place x) × (low ≤ number_of f.cause)) (its_faults place has causes x)
  its_above x low [] r = tt
  its_above x low (c ∷ causes) r =
      let rest = weaker (λ f. (f.place ≡ place x) × (number_of c + 1 ≤ number_of f.cause)) (λ f. (f.place ≡ place x) × (low ≤ number_of f.cause)) (its_faults place has causes x)
      (λ f a. (a.0, omega (arith, a.1, r.0))) (its_above x (number_of c + 1) causes r.1) in
      elim (cases_Bool (has x c)) [ inl here ↦ rw here ((refl, r.0), rest) | inr other ↦ rw other rest ]

  its_in_order : (x : X) (low : ℕ) (causes : List Cause) → Rise number_of low causes → AreInOrder (its_faults place has causes x)
  its_in_order x low [] r = tt
  its_in_order x low (c ∷ causes) r =
      let rest = its_in_order x (number_of c + 1) causes r.1 in
      let behind = weaker (λ f. (f.place ≡ place x) × (number_of c + 1 ≤ number_of f.cause)) (IsBefore (fault_of c (place x))) (its_faults place has causes x)
      (λ f a. inr (sym a.0, omega (arith, a.1))) (its_above x (number_of c + 1) causes r.1) in
      elim (cases_Bool (has x c)) [ inl here ↦ rw here (behind, rest) | inr other ↦ rw other rest ]

  -- ---- the faults of several

  module _ (causes : List Cause) where
    told : (xs : List X) (x : X) (cause : Cause) → Contains causes cause → Contains xs x → has x cause ≡ true → Contains (all_faults place has causes xs) (fault_of cause (place x))
    told [] x cause listed (k, lt, e) is = absurd (omega arith)
    told (y ∷ ys) x cause listed (zero, lt, e) is =
        Contains-append_left (its_faults place has causes y) (all_faults place has causes ys) (fault_of cause (place x))
        (subst (λ z. Contains (its_faults place has causes z) (fault_of cause (place x))) (sym e) (its_told x causes cause listed is))
    told (y ∷ ys) x cause listed (suc k, lt, e) is =
        Contains-append_right (its_faults place has causes y) (all_faults place has causes ys) (fault_of cause (place x)) (told ys x cause listed (k, omega arith, e) is)

    of_one : (xs : List X) (f : Fault) → Contains (all_faults place has causes xs) f → (x : X) × Contains xs x × (place x ≡ f.place) × (has x f.cause ≡ true)
    of_one [] f (k, lt, e) = absurd (omega arith)
    of_one (x ∷ xs) f within = elim (Contains-append_cases (its_faults place has causes x) (all_faults place has causes xs) f within) [
      | inl own ↦ let is = its_own x causes f own in (x, (0, omega arith, refl), is.0, is.1)
      | inr rest ↦ let there = of_one xs f rest in (there.0, (suc there.1.0, omega (arith, there.1.1), there.1.2), there.2, there.3)
    ]

    not_below : (low number : ℕ) (xs : List X) → Rise number_of number causes → Rise place low xs → AllByRecursion (λ f. low ≤ f.place) (all_faults place has causes xs)
    not_below low number [] c r = tt
    not_below low number (x ∷ xs) c r =
        AllByRecursion-append (λ f. low ≤ f.place) (its_faults place has causes x) (all_faults place has causes xs)
        (weaker (λ f. (f.place ≡ place x) × (number ≤ number_of f.cause)) (λ f. low ≤ f.place) (its_faults place has causes x) (λ f a. omega (arith, a.0, r.0)) (its_above x number causes c))
        (weaker (λ f. place x + 1 ≤ f.place) (λ f. low ≤ f.place) (all_faults place has causes xs) (λ f a. omega (arith, a, r.0)) (not_below (place x + 1) number xs c r.1))

    in_order : (low number : ℕ) (xs : List X) → Rise number_of number causes → Rise place low xs → AreInOrder (all_faults place has causes xs)
    in_order low number [] c r = tt
    in_order low number (x ∷ xs) c r =
        let behind = not_below (place x + 1) number xs c r.1 in
        in_order_append (its_faults place has causes x) (all_faults place has causes xs) (its_in_order x number causes c) (in_order (place x + 1) number xs c r.1)
        (weaker (λ f. (f.place ≡ place x) × (number ≤ number_of f.cause)) (λ f. AllByRecursion (IsBefore f) (all_faults place has causes xs)) (its_faults place has causes x)
        (λ f a. weaker (λ g. place x + 1 ≤ g.place) (IsBefore f) (all_faults place has causes xs) (λ g b. inl (omega (arith, a.0, b))) behind)
        (its_above x number causes c))

-- all faults of several things
pub all_of : {X : Type 0} (place : X → ℕ) (has : X → Cause → Bool) (causes : List Cause) (low : ℕ) (xs : List X) → first.AreAll has causes → Rise place low xs → AreAll (IsFaultOf place has xs) (all_faults place has causes xs)
all_of place has causes low xs a r = record {
  all = λ cause at. (
    λ within. of_one place has causes xs (fault_of cause at) within,
    λ (x, within, is_at, is). subst (λ (p : ℕ). Contains (all_faults place has causes xs) (fault_of cause p)) is_at (told place has causes xs x cause (a.all x cause is) within is),
  );
  in_order = in_order place has causes low 0 xs a.rise r;
}

-- the faults of one thing, cause by cause
pub its_split : {X : Type 0} (place : X → ℕ) (has : X → Cause → Bool) (cause : Cause) (causes : List Cause) (x : X)
    → its_faults place has (cause ∷ causes) x ≡ where_it_is (has x cause) cause (place x) ++ its_faults place has causes x
its_split place has cause causes x = elim (cases_Bool (has x cause)) [ inl here ↦ rw here refl | inr other ↦ rw other refl ]
