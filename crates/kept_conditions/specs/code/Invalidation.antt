-- Ranges of bytes of stores, and bytes in which stores differ.
use Rattle.std.specs.Prelude.{◌≡◌, ℕ, ◌+◌, ◌<◌, ◌≤◌, List, ◌&&◌, Bool, true, false, not, Option, Some, None, slice_get}
use Rattle.std.specs.List.{AllByRecursion}
use Rattle.std.proofs.Props.{props}
use Rattle.hii_varstore.specs.Layout.{Shape}
use Rattle.hii_varstore.specs.code.Ranges.{HasRange}
use Rattle.hii_varstore.specs.Stores.{StoreMap, byte_of}
use Rattle.hii_questions.specs.declared.field_range.FieldRange.{FieldRange}
use Rattle.kept_conditions.specs.Touching.{has_one, is_same, range_of}

-- Each of them lies in a store.
abbrev pub HaveRanges : Shape → List FieldRange → Type 0
HaveRanges shape ranges = AllByRecursion (λ r. HasRange shape r.store r.offset r.width) ranges

-- A byte lies in a range.
abbrev pub LiesWithin : FieldRange → ℕ → ℕ → Type 0
LiesWithin r store at = (store ≡ r.store) × (r.offset ≤ at) × (at < r.offset + r.width)

-- A byte lies in none of them.
abbrev pub NoneHasByte : List FieldRange → ℕ → ℕ → Type 0
NoneHasByte ranges store at = AllByRecursion (λ r. LiesWithin r store at → ⊥) ranges

-- ---- differences

-- bytes that are among two sets of bytes
abbrev pub common : (ℕ → ℕ → Bool) → (ℕ → ℕ → Bool) → ℕ → ℕ → Bool
common bytes others store at = bytes store at && others store at

-- two lists differ at an offset
abbrev pub other_at : List ℕ → List ℕ → ℕ → ℕ → Bool
other_at old new store at = not (is_same (slice_get old at) (slice_get new at))

-- and in one of so many bytes from an offset on
abbrev pub other_bytes : List ℕ → List ℕ → ℕ → ℕ → Bool
other_bytes old new offset width = has_one (other_at old new) 0 offset width

-- No number from one on up to before another passes a test.
abbrev pub NoneWithin : (ℕ → Bool) → ℕ → ℕ → Type 0
NoneWithin p from to = (at : ℕ) → from ≤ at → at < to → p at ≡ false

-- the first number from one on that passes a test, if one does
abbrev pub IsFirstFrom : (ℕ → Bool) → ℕ → Option ℕ → Type 0
IsFirstFrom p from None = (at : ℕ) → from ≤ at → p at ≡ false
IsFirstFrom p from (Some first) = (from ≤ first) × (p first ≡ true) × NoneWithin p from first

pub IsFirstFrom-prop : (p : ℕ → Bool) (from : ℕ) (first : Option ℕ) → IsProp (IsFirstFrom p from first)
IsFirstFrom-prop p from None = hlevel props
IsFirstFrom-prop p from (Some first) = hlevel props

-- the bytes of a range
abbrev pub in_range : FieldRange → ℕ → ℕ → Bool
in_range r = range_of r.store r.offset r.width

-- Two sets of stores hold the same in each byte that lies in none of some ranges.
abbrev pub AreAlikeOutside : List FieldRange → StoreMap → StoreMap → Type 0
AreAlikeOutside rs old new =
    (store at : ℕ) → NoneHasByte rs store at → byte_of old store at ≡ byte_of new store at

-- Two sets of stores hold the same.
abbrev pub AreAlike : StoreMap → StoreMap → Type 0
AreAlike old new = (store at : ℕ) → byte_of old store at ≡ byte_of new store at
