-- Sets of places.
use Rattle.std.specs.Prelude.{ℕ, Bool}
use Rattle.std.specs.BTreeSet.{BTreeSet, contains}
use Rattle.std.specs.Ordering.{nat_cmp}

abbrev pub has_place : BTreeSet ℕ → ℕ → Bool
has_place places place = contains nat_cmp places place
