-- Sets of ids of questions.
use Rattle.std.specs.Prelude.{◌≡◌, ◌≤◌, ℕ, Bool, false}
use Rattle.std.specs.BTreeSet.{BTreeSet, IsOrdered, contains}
use Rattle.std.specs.Ordering.{nat_cmp}

abbrev pub has_id : BTreeSet ℕ → ℕ → Bool
has_id ids id = contains nat_cmp ids id

-- Ids rise, and have 16 bits.
pub record AreIds (ids : BTreeSet ℕ) : Type 0 where
  pub ordered : IsOrdered nat_cmp ids
  pub few : (id : ℕ) → 65536 ≤ id → has_id ids id ≡ false
