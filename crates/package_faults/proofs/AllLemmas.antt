-- All faults of one part or of two, and the least of them.
use Rattle.std.proofs.Common.{◌≡◌, ◌⊎◌, ℕ, zero, suc, ◌<◌, ◌≤◌, List, ◌∷◌, length, refl, ap, arith, inl, inr}
use Rattle.std.specs.Prelude.{Contains}
use Rattle.hii_bytes.specs.Cause.{number_of}
use Rattle.hii_bytes.specs.Faults.{HasNone, IsLeast, Then}
use Rattle.hii_bytes.specs.declared.cause.Cause.{Cause}
use Rattle.hii_bytes.specs.declared.cause.Fault.{Fault}
use Rattle.ifr_nodes.proofs.NamedLemmas.{each}
use Rattle.package_faults.specs.AllFaults.{AreAll, IsBefore, fault_of}

-- the first of all is the least
pub first_is_least : (IsFault : Cause → ℕ → Type 0) (f : Fault) (fs : List Fault) → AreAll IsFault (f ∷ fs) → IsLeast IsFault f
first_is_least IsFault f fs a = record {
  told = (a.all f.cause f.place).0 (0, omega arith, refl);
  least = λ cause place is. behind cause place ((a.all cause place).1 is);
}
  where
    not_above : (cause : Cause) (place : ℕ) → IsBefore f (fault_of cause place) → (f.place < place) ⊎ ((f.place ≡ place) × (number_of f.cause ≤ number_of cause))
    not_above cause place (inl lower) = inl lower
    not_above cause place (inr same) = inr (same.0, omega (arith, same.1))

    behind : (cause : Cause) (place : ℕ) → Contains (f ∷ fs) (fault_of cause place) → (f.place < place) ⊎ ((f.place ≡ place) × (number_of f.cause ≤ number_of cause))
    behind cause place (zero, lt, e) = inr (ap (λ (g : Fault). g.place) e, omega (arith, ap (λ (g : Fault). number_of g.cause) e))
    behind cause place (suc k, lt, e) = not_above cause place (each (IsBefore f) fs (fault_of cause place) a.in_order.0 (k, omega arith, e))

-- where there is a fault some are told
pub some_told : (IsFault : Cause → ℕ → Type 0) (fs : List Fault) (cause : Cause) (place : ℕ) → AreAll IsFault fs → IsFault cause place → 0 < length fs
some_told IsFault fs cause place a is = let (k, lt, e) = (a.all cause place).1 is in omega (arith, lt)

-- where the first part has some, all of both are its own
pub then_first : (First Second : Cause → ℕ → Type 0) (fs : List Fault) (cause : Cause) (place : ℕ) → First cause place → AreAll First fs → AreAll (Then First Second) fs
then_first First Second fs cause place has a = record {
  all = λ c p. (λ within. inl ((a.all c p).0 within), λ is. elim is [ inl own ↦ (a.all c p).1 own | inr later ↦ absurd (later.0 cause place has) ]);
  in_order = a.in_order;
}

pub of_first : (First Second : Cause → ℕ → Type 0) (fs : List Fault) (cause : Cause) (place : ℕ) → First cause place → AreAll (Then First Second) fs → AreAll First fs
of_first First Second fs cause place has a = record {
  all = λ c p. (λ within. elim ((a.all c p).0 within) [ inl own ↦ own | inr later ↦ absurd (later.0 cause place has) ], λ own. (a.all c p).1 (inl own));
  in_order = a.in_order;
}

-- where it has none they are those of the second
pub then_second : (First Second : Cause → ℕ → Type 0) (fs : List Fault) → HasNone First → AreAll Second fs → AreAll (Then First Second) fs
then_second First Second fs none a = record {
  all = λ c p. (λ within. inr (none, (a.all c p).0 within), λ is. elim is [ inl own ↦ absurd (none c p own) | inr later ↦ (a.all c p).1 later.1 ]);
  in_order = a.in_order;
}

pub of_second : (First Second : Cause → ℕ → Type 0) (fs : List Fault) → HasNone First → AreAll (Then First Second) fs → AreAll Second fs
of_second First Second fs none a = record {
  all = λ c p. (λ within. elim ((a.all c p).0 within) [ inl own ↦ absurd (none c p own) | inr later ↦ later.1 ], λ later. (a.all c p).1 (inr (none, later)));
  in_order = a.in_order;
}
