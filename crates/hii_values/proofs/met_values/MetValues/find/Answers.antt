use Rattle.std.proofs.Common.{◌≡◌, ◌==◌, ◌<◌, true, false, cond, ℕ, Some, None, List, rules, ltb, length, sym, subst, arith, get_or}
use Rattle.std.specs.List.{list_any}
use Rattle.std.specs.List.Sorted.{IsNonDecreasing, IsPartitionPoint}
use Rattle.std.proofs.lemmas.List.Sorted.{IsPartitionPoint-from_clause, IsPartitionedBy-ltb}
use Rattle.hii_values.specs.code.MetValues.{first_from}
use Rattle.hii_values.proofs.MetLemmas.{found_at, not_there}
use Rattle.hii_values.proofs.met_values.MetValues.find.Goals as goal
use Rattle.hii_values.proofs.met_values.MetValues.find.Goals.{else-at-values-via-then-at-values+else-values-at, else-at-values-via-else-at-values}

pub returns-then-values-at-clause-found : goal.returns-then-values-at-clause-found
returns-then-values-at-clause-found c =
    let value = c.args.value in
    let xs = c.as_slice-values.result.now in
    let is = c.as_slice-values.ensures.value in
    let at = c.partition_point-at.result in
    let up = subst IsNonDecreasing (sym is) c.args.self.now.rising in
    let point : IsPartitionPoint (λ x. ltb x value ≡ true) (λ x. ltb x value ≡ false) xs at =
    IsPartitionPoint-from_clause (λ x. ltb x value) xs at c.partition_point-at.ensures.partitioned (IsPartitionedBy-ltb (λ x. x) xs value up) (λ a r q called. search rules) in
    subst (λ (l : List ℕ). Some at ≡ cond (list_any (λ x. x == value) l) (Some (first_from value l)) None) is
    (found_at value at xs point c.if-at-values.true c.if-values-at.true)

pub returns-else-at-values-clause-found : goal.returns-else-at-values-clause-found
returns-else-at-values-clause-found c =
    let value = c.args.value in
    let xs = c.as_slice-values.result.now in
    let is = c.as_slice-values.ensures.value in
    let at = c.partition_point-at.result in
    let up = subst IsNonDecreasing (sym is) c.args.self.now.rising in
    let point : IsPartitionPoint (λ x. ltb x value ≡ true) (λ x. ltb x value ≡ false) xs at =
    IsPartitionPoint-from_clause (λ x. ltb x value) xs at c.partition_point-at.ensures.partitioned (IsPartitionedBy-ltb (λ x. x) xs value up) (λ a r q called. search rules) in
    let other : at < length xs → get_or xs at 0 ≡ value → ⊥ = λ within same. elim c.else-at-values.branch [
      | else-at-values-via-then-at-values+else-values-at w ↦ w.if-values-at.false same
      | else-at-values-via-else-at-values w ↦ let past = w.if-at-values.false in omega (arith, past, within)
    ] in
    subst (λ (l : List ℕ). None ≡ cond (list_any (λ x. x == value) l) (Some (first_from value l)) None) is
    (not_there value at xs up point c.partition_point-at.ensures.bound other)
