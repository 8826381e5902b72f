-- The least fault of several: of faults that are listed, as the chapter Faults lists them, or of those of a kind (own rule).
use Rattle.std.specs.Prelude.{◌≡◌, ◌⊎◌, ◌↔◌, ℕ, ◌<◌, ◌≤◌, Bool, true, List, Contains}
use Rattle.browser_rules.specs.Faults as chapter
use Rattle.hii_bytes.specs.declared.cause.Cause.{Cause}
use Rattle.hii_bytes.specs.declared.cause.Cause.TheVariants.{OutOfMemory}
use Rattle.hii_bytes.specs.declared.cause.Fault.{Fault}
use Rattle.hii_bytes.specs.Cause.{number_of}
use Rattle.hii_bytes.specs.Causes.{fault_for}

-- an allocation fails
abbrev pub out_of_memory : Fault
out_of_memory = record { cause = OutOfMemory; place = 0 }

-- ---- faults that are listed

-- The fault is the least of these, by the chapters.
abbrev pub IsLeastAmong : List chapter.Fault → Fault → Type 0
IsLeastAmong faults fault = chapter.IsLeast faults (fault_for fault.cause fault.place)

-- Out of memory, or the least of these is told.
abbrev pub RefusesAmong : List chapter.Fault → Fault → Type 0
RefusesAmong faults fault = (fault ≡ out_of_memory) ⊎ IsLeastAmong faults fault

-- these as a kind of faults: one of a cause at a place stands among them
abbrev pub IsAmong : List chapter.Fault → Cause → ℕ → Type 0
IsAmong faults cause place = Contains faults (fault_for cause place)

-- These are the faults of a kind: a cause has a fault at a place exactly where one stands among them.
abbrev pub AreFaults : List chapter.Fault → (Cause → ℕ → Type 0) → Type 0
AreFaults faults IsFault = (cause : Cause) (place : ℕ) → IsAmong faults cause place ↔ IsFault cause place

-- ---- faults of a kind

-- The least fault: the one at the lowest place, and there the one of the lowest number.
pub record IsLeast (IsFault : Cause → ℕ → Type 0) (fault : Fault) : Type 0 where
  pub told : IsFault fault.cause fault.place
  pub least : (cause : Cause) (place : ℕ) → IsFault cause place →
      (fault.place < place) ⊎ ((fault.place ≡ place) × (number_of fault.cause ≤ number_of cause))

-- Out of memory, or the least fault is told.
abbrev pub Refuses : (Cause → ℕ → Type 0) → Fault → Type 0
Refuses IsFault fault = (fault ≡ out_of_memory) ⊎ IsLeast IsFault fault

-- there is none of these faults
abbrev pub HasNone : (Cause → ℕ → Type 0) → Type 0
HasNone IsFault = (cause : Cause) (place : ℕ) → IsFault cause place → ⊥

-- the faults of two parts, of which the second has some only where the first has none
abbrev pub Then : (Cause → ℕ → Type 0) → (Cause → ℕ → Type 0) → Cause → ℕ → Type 0
Then First Second cause place = First cause place ⊎ (HasNone First × Second cause place)

-- the faults of several things, each at the place of one that has it
abbrev pub IsFaultOf : {X : Type 0} → (X → ℕ) → (X → Cause → Bool) → List X → Cause → ℕ → Type 0
IsFaultOf {X} place has xs cause at =
    (x : X) × Contains xs x × (place x ≡ at) × (has x cause ≡ true)
