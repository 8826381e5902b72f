-- The values that are collected of a NUMERIC.
use Rattle.std.specs.Prelude.{ℕ, ℤ, List, filter}
use Rattle.std.specs.List.{flat_map}
use Rattle.std.specs.Ordering.{int_cmp}
use Rattle.hii_questions.specs.Fields.{Asked}
use Rattle.unlock_audit.specs.Moves.{near_constant, takes}
use Rattle.unlock_audit.specs.Rising.{added_each}

-- with those of some values that it takes
abbrev pub offered : Asked → List ℤ → List ℤ → List ℤ
offered q its values = added_each int_cmp its (filter (takes q) values)

-- with those near to some constants
abbrev pub offered_near : Asked → List ℤ → List ℕ → List ℤ
offered_near q its ks = offered q its (flat_map (near_constant q.node) ks)
