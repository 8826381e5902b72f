-- Elements that come once.
use Rattle.std.proofs.Common.{◌≡◌, Bool, List, [], ◌∷◌, ◌++◌, refl}
use Rattle.std.specs.BTreeSet.{insert_key}
use Rattle.std.specs.List.{list_any}
use Rattle.std.specs.Prelude.{if◌then◌else◌}
use Rattle.std.specs.declared.cmp.Ordering.{Ordering}
use Rattle.unlock_audit.specs.Rising.{added_each, appended_each}

module _ {X : Type 0} where
  pub added_append : (cmp : X → X → Ordering) (its xs ys : List X) → added_each cmp its (xs ++ ys) ≡ added_each cmp (added_each cmp its xs) ys
  added_append cmp its [] ys = refl
  added_append cmp its (x ∷ xs) ys = added_append cmp (insert_key cmp its x) xs ys

  pub appended_append : (same : X → X → Bool) (its xs ys : List X) → appended_each same its (xs ++ ys) ≡ appended_each same (appended_each same its xs) ys
  appended_append same its [] ys = refl
  appended_append same its (x ∷ xs) ys = appended_append same (if list_any (same x) its then its else its ++ x ∷ []) xs ys
