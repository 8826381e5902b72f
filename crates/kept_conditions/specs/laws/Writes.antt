-- Writes into stores, and the conditions that they do not touch (own rule).
use Rattle.std.specs.Prelude.{◌≡◌, ℕ, Bool, false, List, length}
use Rattle.ifr_opcodes.specs.Forest.{Node}
use Rattle.hii_varstore.specs.Stores.{StoreMap, shape_of, byte_of, with_bytes}
use Rattle.guard_policy.specs.World.{is_met_over}
use Rattle.kept_conditions.specs.Touching.{difference, range_of, touches}

-- Other bytes than the written ones are as they were.
pub record IsWrite (written : ℕ → ℕ → Bool) (old new : StoreMap) : Type 0 where
  pub shape : shape_of new ≡ shape_of old
  pub others : (store at : ℕ) → written store at ≡ false
      → byte_of new store at ≡ byte_of old store at

-- A write leaves the conditions as they were that it does not touch.
abbrev pub LeavesUntouched : Type 0
LeavesUntouched =
    (ns : List Node) (written : ℕ → ℕ → Bool) (old new : StoreMap) (c : Node)
    → IsWrite written old new → touches ns written c ≡ false
    → is_met_over ns new c ≡ is_met_over ns old c

-- A put of bytes is a write of as many bytes.
abbrev pub PutsAreWrites : Type 0
PutsAreWrites =
    (m : StoreMap) (store offset : ℕ) (bytes : List ℕ)
    → IsWrite (range_of store offset (length bytes)) m (with_bytes m store offset bytes)

-- Other stores of the same layout are a write of the bytes in which they differ.
abbrev pub ChangesAreWrites : Type 0
ChangesAreWrites =
    (old new : StoreMap) → shape_of old ≡ shape_of new → IsWrite (difference old new) old new
