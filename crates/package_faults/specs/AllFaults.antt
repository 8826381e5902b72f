-- All faults of a kind, in the order in which they are told (own rule).
use Rattle.std.specs.Prelude.{◌≡◌, ◌⊎◌, ◌↔◌, ℕ, ◌<◌, ⊤, List, [], ◌∷◌, Contains}
use Rattle.std.specs.List.{AllByRecursion}
use Rattle.hii_bytes.specs.Cause.{number_of}
use Rattle.hii_bytes.specs.declared.cause.Cause.{Cause}
use Rattle.hii_bytes.specs.declared.cause.Fault.{Fault}

abbrev pub fault_of : Cause → ℕ → Fault
fault_of cause place = record { cause = cause; place = place }

-- A fault stands at a lower place than another, or at the same one and has a lower number.
abbrev pub IsBefore : Fault → Fault → Type 0
IsBefore f g = (f.place < g.place) ⊎ ((f.place ≡ g.place) × (number_of f.cause < number_of g.cause))

-- Each is before all that follow it: so none is told twice.
abbrev pub AreInOrder : List Fault → Type 0
AreInOrder [] = ⊤
AreInOrder (f ∷ fs) = AllByRecursion (IsBefore f) fs × AreInOrder fs

-- These are the faults of a kind, each of them once, by place and then by the cause's number.
pub record AreAll (IsFault : Cause → ℕ → Type 0) (faults : List Fault) : Type 0 where
  pub all : (cause : Cause) (place : ℕ) → Contains faults (fault_of cause place) ↔ IsFault cause place
  pub in_order : AreInOrder faults
