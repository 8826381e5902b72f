-- The first of several things that has a fault has the least fault, where their places rise.
use Rattle.std.proofs.Common.{◌≡◌, ◌⊎◌, ℕ, zero, suc, ◌+◌, ◌<◌, ◌≤◌, Bool, true, false, Option, Some, None, List, [], ◌∷◌, sym, ap, subst, ◌∙◌, arith, inl, inr}
use Rattle.std.specs.Prelude.{Contains}
use Rattle.std.proofs.lemmas.Bool.{cond-true, cond-false, cases_Bool, false≢true}
use Rattle.hii_bytes.specs.Cause.{number_of}
use Rattle.hii_bytes.specs.Faults.{IsLeast, HasNone, IsFaultOf}
use Rattle.hii_bytes.specs.code.FirstFaults.{first_cause, fault_or, first_fault, Rise, AreAll}
use Rattle.hii_bytes.specs.declared.cause.Cause.{Cause}
use Rattle.hii_bytes.specs.declared.cause.Fault.{Fault}

some_same : {A : Type 0} (x y : A) → Some x ≡ Some y → x ≡ y
some_same x y e = cc

none_some : {A : Type 0} (y : A) → ◌≡◌ {A = Option A} None (Some y) → ⊥
none_some y e = cc

some_none : {A : Type 0} (y : A) → ◌≡◌ {A = Option A} (Some y) None → ⊥
some_none y e = cc

-- what stands among rising things is not below the first place
above : {X : Type 0} (place : X → ℕ) (low : ℕ) (xs : List X) (x : X) → Rise place low xs → Contains xs x → low ≤ place x
above place low [] x r (k, lt, e) = absurd (omega arith)
above place low (y ∷ ys) x r (zero, lt, e) = omega (arith, r.0, ap place e)
above place low (y ∷ ys) x r (suc k, lt, e) = omega (arith, r.0, above place (place y + 1) ys x r.1 (k, omega arith, e))

-- the first of rising causes that a thing has is its least among them
first_is_least : {X : Type 0} (has : X → Cause → Bool) (x : X) (low : ℕ) (causes : List Cause) (c : Cause) → Rise number_of low causes → first_cause has x causes ≡ Some c
    → (has x c ≡ true) × ((d : Cause) → Contains causes d → has x d ≡ true → number_of c ≤ number_of d)
first_is_least has x low [] c r e = absurd (none_some c e)
first_is_least has x low (b ∷ causes) c r e = elim (cases_Bool (has x b)) [
  | inl h ↦
      let same : b ≡ c = some_same b c (sym (cond-true (has x b) (Some b) (first_cause has x causes) h) ∙ e) in
      (subst (λ y. has x y ≡ true) same h, λ d within _. subst (λ y. number_of y ≤ number_of d) same (least d within))
  | inr h ↦
      let later = first_is_least has x (number_of b + 1) causes c r.1 (sym (cond-false (has x b) (Some b) (first_cause has x causes) h) ∙ e) in
      (later.0, λ d within there. behind later.1 d within there h)
]
  where
    least : (d : Cause) → Contains (b ∷ causes) d → number_of b ≤ number_of d
    least d (zero, lt, same) = omega (arith, ap number_of same)
    least d (suc k, lt, same) = omega (arith, above number_of (number_of b + 1) causes d r.1 (k, omega arith, same))

    behind : ((d : Cause) → Contains causes d → has x d ≡ true → number_of c ≤ number_of d) → (d : Cause) → Contains (b ∷ causes) d → has x d ≡ true → has x b ≡ false → number_of c ≤ number_of d
    behind later d (zero, lt, same) there not_first = absurd (false≢true (sym not_first ∙ ap (has x) same ∙ there))
    behind later d (suc k, lt, same) there not_first = later d (k, omega arith, same) there

none_of : {X : Type 0} (has : X → Cause → Bool) (x : X) (causes : List Cause) → first_cause has x causes ≡ None → (d : Cause) → Contains causes d → has x d ≡ true → ⊥
none_of has x [] e d (k, lt, same) there = absurd (omega arith)
none_of has x (b ∷ causes) e d within there = elim (cases_Bool (has x b)) [
  | inl h ↦ none_some b (sym e ∙ cond-true (has x b) (Some b) (first_cause has x causes) h)
  | inr h ↦ behind (none_of has x causes (sym (cond-false (has x b) (Some b) (first_cause has x causes) h) ∙ e)) h within
]
  where
    behind : ((d : Cause) → Contains causes d → has x d ≡ true → ⊥) → has x b ≡ false → Contains (b ∷ causes) d → ⊥
    behind later not_first (zero, lt, same) = false≢true (sym not_first ∙ ap (has x) same ∙ there)
    behind later not_first (suc k, lt, same) = later d (k, omega arith, same) there

least_here : {X : Type 0} (place : X → ℕ) (has : X → Cause → Bool) (causes : List Cause) (x : X) (xs : List X) (c : Cause) → AreAll has causes → Rise place (place x + 1) xs → first_cause has x causes ≡ Some c
    → IsLeast (IsFaultOf place has (x ∷ xs)) (record { cause = c; place = place x })
least_here {X = X} place has causes x xs c a r e =
    let one = first_is_least has x 0 causes c a.rise e in
    record { told = (x, (0, omega arith, λ i. x), λ i. place x, one.0); least = λ d p (y, within, at, there). go one.1 d p y within at there }
  where
    go : ((d : Cause) → Contains causes d → has x d ≡ true → number_of c ≤ number_of d) → (d : Cause) (p : ℕ) (y : X) → Contains (x ∷ xs) y → place y ≡ p → has y d ≡ true
        → (place x < p) ⊎ ((place x ≡ p) × (number_of c ≤ number_of d))
    go least d p y (zero, lt, same) at there =
        let there_x : has x d ≡ true = ap (λ (z : X). has z d) same ∙ there in
        inr (ap place same ∙ at, least d (a.all x d there_x) there_x)
    go least d p y (suc k, lt, same) at there = inl (omega (arith, at, above place (place x + 1) xs y r (k, omega arith, same)))

least_later : {X : Type 0} (place : X → ℕ) (has : X → Cause → Bool) (causes : List Cause) (x : X) (xs : List X) (f : Fault) → AreAll has causes → first_cause has x causes ≡ None
    → IsLeast (IsFaultOf place has xs) f → IsLeast (IsFaultOf place has (x ∷ xs)) f
least_later {X = X} place has causes x xs f a e l = record {
  told = (l.told.0, (suc l.told.1.0, omega (arith, l.told.1.1), l.told.1.2), l.told.2, l.told.3);
  least = λ d p (y, within, at, there). go d p y within at there;
}
  where
    go : (d : Cause) (p : ℕ) (y : X) → Contains (x ∷ xs) y → place y ≡ p → has y d ≡ true → (f.place < p) ⊎ ((f.place ≡ p) × (number_of f.cause ≤ number_of d))
    go d p y (zero, lt, same) at there = let there_x : has x d ≡ true = ap (λ (z : X). has z d) same ∙ there in absurd (none_of has x causes e d (a.all x d there_x) there_x)
    go d p y (suc k, lt, same) at there = l.least d p (y, (k, omega arith, same), at, there)

-- the first of rising things that has a fault has the least
pub first_among : {X : Type 0} (place : X → ℕ) (has : X → Cause → Bool) (causes : List Cause) (low : ℕ) (xs : List X) (f : Fault) → AreAll has causes → Rise place low xs
    → first_fault place has causes xs ≡ Some f → IsLeast (IsFaultOf place has xs) f
first_among {X = X} place has causes low [] f a r e = absurd (none_some f e)
first_among {X = X} place has causes low (x ∷ xs) f a r e = go (λ later. first_among place has causes (place x + 1) xs f a r.1 later) (first_cause has x causes) (λ i. first_cause has x causes) e
  where
    go : (first_fault place has causes xs ≡ Some f → IsLeast (IsFaultOf place has xs) f) → (c : Option Cause) → first_cause has x causes ≡ c → fault_or c (place x) (first_fault place has causes xs) ≡ Some f
        → IsLeast (IsFaultOf place has (x ∷ xs)) f
    go later None is found = least_later place has causes x xs f a is (later found)
    go later (Some c) is found = subst (IsLeast (IsFaultOf place has (x ∷ xs))) (some_same (record { cause = c; place = place x }) f found) (least_here place has causes x xs c a r.1 is)

-- where there is no first there is none
pub none_among : {X : Type 0} (place : X → ℕ) (has : X → Cause → Bool) (causes : List Cause) (xs : List X) → AreAll has causes → first_fault place has causes xs ≡ None → HasNone (IsFaultOf place has xs)
none_among {X = X} place has causes [] a e d p (y, (k, lt, same), at, there) = absurd (omega arith)
none_among {X = X} place has causes (x ∷ xs) a e d p (y, within, at, there) = go (λ later. none_among place has causes xs a later) (first_cause has x causes) (λ i. first_cause has x causes) e within
  where
    go : (first_fault place has causes xs ≡ None → HasNone (IsFaultOf place has xs)) → (c : Option Cause) → first_cause has x causes ≡ c → fault_or c (place x) (first_fault place has causes xs) ≡ None → Contains (x ∷ xs) y → ⊥
    go later (Some c) is found within = some_none (record { cause = c; place = place x }) found
    go later None is found (zero, lt, same) = let there_x : has x d ≡ true = ap (λ (z : X). has z d) same ∙ there in none_of has x causes is d (a.all x d there_x) there_x
    go later None is found (suc k, lt, same) = later found d p (y, (k, omega arith, same), at, there)

-- a refusal by the least fault comes only where there is one
pub accepted_without : (IsFault : Cause → ℕ → Type 0) (fault : Fault) → IsLeast IsFault fault → HasNone IsFault → ⊥
accepted_without IsFault fault l none = none fault.cause fault.place l.told
