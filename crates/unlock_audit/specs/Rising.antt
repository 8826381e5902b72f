-- Lists whose elements come once, and fronts of lists (own rule).
use Rattle.std.specs.Prelude.{Bool, if◌then◌else◌, List, [], ◌∷◌, ◌++◌}
use Rattle.std.specs.BTreeSet.{insert_key}
use Rattle.std.specs.List.{list_any}
use Rattle.std.specs.declared.cmp.Ordering.{Ordering}

module _ {X : Type 0} where
  -- these and others, in rising order
  abbrev pub added_each : (X → X → Ordering) → List X → List X → List X
  added_each cmp its [] = its
  added_each cmp its (x ∷ xs) = added_each cmp (insert_key cmp its x) xs

  -- each of them once, rising
  abbrev pub rising : (X → X → Ordering) → List X → List X
  rising cmp xs = added_each cmp [] xs

  -- these, and behind them each of others that is not there yet
  abbrev pub appended_each : (X → X → Bool) → List X → List X → List X
  appended_each same its [] = its
  appended_each same its (x ∷ xs) = appended_each same (if list_any (same x) its then its else its ++ x ∷ []) xs

  -- each of them once, where it comes first
  abbrev pub once : (X → X → Bool) → List X → List X
  once same xs = appended_each same [] xs

  -- the elements up to the first that passes a test, with it
  abbrev pub up_to : (X → Bool) → List X → List X
  up_to test [] = []
  up_to test (x ∷ xs) = if test x then x ∷ [] else x ∷ up_to test xs
