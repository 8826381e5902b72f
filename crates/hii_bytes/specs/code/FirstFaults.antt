-- The first fault that a search over things in order finds.
use Rattle.std.specs.Prelude.{◌≡◌, ℕ, ◌+◌, ◌≤◌, Bool, true, if◌then◌else◌, Option, Some, None, List, [], ◌∷◌, Contains}
use Rattle.hii_bytes.specs.declared.cause.Cause.{Cause}
use Rattle.hii_bytes.specs.declared.cause.Fault.{Fault}
use Rattle.hii_bytes.specs.Cause.{number_of}

-- the first of some causes that a thing has
abbrev pub first_cause : {X : Type 0} → (X → Cause → Bool) → X → List Cause → Option Cause
first_cause has x [] = None
first_cause has x (cause ∷ causes) = if has x cause then Some cause else first_cause has x causes

-- a fault of this cause at a place, or another
abbrev pub fault_or : Option Cause → ℕ → Option Fault → Option Fault
fault_or None place other = other
fault_or (Some cause) place other = Some record { cause = cause; place = place }

-- the first of several things that has one of some causes, with the first of these
abbrev pub first_fault : {X : Type 0} → (X → ℕ) → (X → Cause → Bool) → List Cause → List X
    → Option Fault
first_fault place has causes [] = None
first_fault place has causes (x ∷ xs) =
    fault_or (first_cause has x causes) (place x) (first_fault place has causes xs)

-- the places of things rise
abbrev pub Rise : {X : Type 0} → (X → ℕ) → ℕ → List X → Type 0
Rise place low [] = Unit {0}
Rise place low (x ∷ xs) = (low ≤ place x) × Rise place (place x + 1) xs

-- causes in the order of their numbers, among which is each that a thing may have
pub record AreAll {X : Type 0} (has : X → Cause → Bool) (causes : List Cause) : Type 0 where
  pub rise : Rise number_of 0 causes
  pub all : (x : X) (cause : Cause) → has x cause ≡ true → Contains causes cause
