-- The faults of several things, one thing after the other.
use Rattle.std.specs.Prelude.{ℕ, Bool, if◌then◌else◌, List, [], ◌∷◌, filter, map}
use Rattle.std.specs.List.{flat_map}
use Rattle.hii_bytes.specs.declared.cause.Cause.{Cause}
use Rattle.hii_bytes.specs.declared.cause.Fault.{Fault}
use Rattle.package_faults.specs.AllFaults.{fault_of}

-- the faults of one thing, of causes that are listed
abbrev pub its_faults : {X : Type 0} → (X → ℕ) → (X → Cause → Bool) → List Cause → X → List Fault
its_faults place has causes x = map (λ cause. fault_of cause (place x)) (filter (has x) causes)

-- the faults of several
abbrev pub all_faults : {X : Type 0} → (X → ℕ) → (X → Cause → Bool) → List Cause → List X → List Fault
all_faults place has causes xs = flat_map (its_faults place has causes) xs

-- a fault of a cause at a place, where there is one
abbrev pub where_it_is : Bool → Cause → ℕ → List Fault
where_it_is is cause place = if is then fault_of cause place ∷ [] else []
