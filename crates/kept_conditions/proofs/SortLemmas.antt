-- Lists that are sorted, and of which each element is left once.
use Rattle.std.proofs.Common.{◌≡◌, ℕ, zero, suc, ◌+◌, ◌<◌, ◌≤◌, ◌==◌, ◌&&◌, ◌||◌, Bool, true, false, List, [], ◌∷◌, get_or, is_lt, nat_cmp, refl, sym, ap, ◌∙◌, subst, inl, inr, arith}
use Rattle.std.specs.Prelude.{All, Contains}
use Rattle.std.specs.List.{dedup, dedup_from, list_any}
use Rattle.std.specs.List.Retain.{DiffersFromLast, IsFiltered}
use Rattle.std.specs.List.Sorted.{IsNonDecreasingBy, IsPermutation, IsSorted}
use Rattle.std.specs.Cmp.{nat_cmp_is}
use Rattle.std.specs.Ordering.{ordering_then}
use Rattle.std.specs.declared.cmp.Ordering.{Ordering}
use Rattle.std.specs.declared.cmp.Ordering.TheVariants.{Less, Equal, Greater}
use Rattle.std.proofs.lemmas.Bool.{cases_Bool, cases_lt, cases_eq, cond-true, cond-false, and_parts, eqb-true, false≢true}
use Rattle.std.proofs.lemmas.List.Elements.{All-tail, All-contains, Contains-get_or}
use Rattle.std.proofs.lemmas.List.Filters.{All-dedup, dedup_is}
use Rattle.std.proofs.lemmas.List.Kept.{Contains-from_dedup}
use Rattle.std.proofs.lemmas.List.Sorted.{Contains-permutation, IsPermutation-sym, IsNonDecreasingBy-from_all_adjacent, list_any-IsPermutation}
use Rattle.hii_questions.specs.code.ByField.{range_cmp}
use Rattle.hii_questions.specs.code.Entries.{entry_range}
use Rattle.kept_conditions.specs.code.Index.{HasSame, RulesRise, first_of, AreSmall, AreSorted}
use Rattle.kept_conditions.specs.declared.index.RuleUse.{RuleUse}
use Rattle.kept_conditions.specs.declared.index.Dependency.{Dependency}

-- ---- each once

module _ {X : Type 0} (E : X → X → Bool) where
  module _ (same : (x y : X) → E x y ≡ true → x ≡ y) (p : X → Bool) where
    passes_from : (k : X) (xs : List X) → list_any p (dedup_from E k xs) ≡ (p k || list_any p xs)
    passes_from k [] = refl
    passes_from k (x ∷ xs) = elim (cases_Bool (E x k)) [
      | inl alike ↦
          ap (list_any p) (cond-true (E x k) (dedup_from E k xs) (k ∷ dedup_from E x xs) alike) ∙ passes_from k xs
          ∙ twice (p k) (list_any p xs) ∙ ap (λ y. p k || (p y || list_any p xs)) (sym (same x k alike))
      | inr other ↦
          ap (list_any p) (cond-false (E x k) (dedup_from E k xs) (k ∷ dedup_from E x xs) other) ∙ ap (λ b. p k || b) (passes_from x xs)
    ]
      where
        twice : (a b : Bool) → a || b ≡ a || (a || b)
        twice true b = refl
        twice false b = refl

    passes_once : (xs : List X) → list_any p (dedup E xs) ≡ list_any p xs
    passes_once [] = refl
    passes_once (x ∷ xs) = passes_from x xs

  pub has_same : ((x y : X) → E x y ≡ true → x ≡ y) → (olds sorted news : List X) → IsPermutation olds sorted → IsFiltered (DiffersFromLast E) [] sorted news → HasSame olds news
  has_same same olds sorted news moved once =
      let is : news ≡ dedup E sorted = dedup_is E sorted news once in
      record {
        passes = λ p. ap (list_any p) is ∙ passes_once same p sorted ∙ sym (list_any-IsPermutation p olds sorted moved);
        within = λ x has. Contains-permutation sorted olds x (IsPermutation-sym olds sorted moved) (Contains-from_dedup E sorted x (subst (λ (l : List X). Contains l x) is has));
      }

  -- ---- in order

  module _ (n : X → ℕ) where
    rises_cons : (k : X) (xs : List X) → All (λ y. n k ≤ n y) xs → IsNonDecreasingBy n xs → IsNonDecreasingBy n (k ∷ xs)
    rises_cons k xs above rise zero zero d le less = omega arith
    rises_cons k xs above rise zero (suc j) d le less = above j d (omega (arith, less))
    rises_cons k xs above rise (suc i) zero d le less = absurd (omega (arith, le))
    rises_cons k xs above rise (suc i) (suc j) d le less = rise i j d (omega (arith, le)) (omega (arith, less))

    rises_head : (x : X) (xs : List X) → IsNonDecreasingBy n (x ∷ xs) → All (λ y. n x ≤ n y) xs
    rises_head x xs rise k d less = rise 0 (suc k) d (omega arith) (omega (arith, less))

    rises_tail : (x : X) (xs : List X) → IsNonDecreasingBy n (x ∷ xs) → IsNonDecreasingBy n xs
    rises_tail x xs rise i j d le less = rise (suc i) (suc j) d (omega (arith, le)) (omega (arith, less))

    rises_from : (k : X) (xs : List X) → All (λ y. n k ≤ n y) xs → IsNonDecreasingBy n xs → IsNonDecreasingBy n (dedup_from E k xs)
    rises_from k [] above rise = rises_cons k [] above rise
    rises_from k (x ∷ xs) above rise = elim (cases_Bool (E x k)) [
      | inl alike ↦ subst (IsNonDecreasingBy n) (sym (cond-true (E x k) (dedup_from E k xs) (k ∷ dedup_from E x xs) alike)) (rises_from k xs (All-tail (λ y. n k ≤ n y) x xs above) (rises_tail x xs rise))
      | inr other ↦
          subst (IsNonDecreasingBy n) (sym (cond-false (E x k) (dedup_from E k xs) (k ∷ dedup_from E x xs) other))
          (rises_cons k (dedup_from E x xs) (All-dedup E (λ y. n k ≤ n y) (x ∷ xs) above) (rises_from x xs (rises_head x xs rise) (rises_tail x xs rise)))
    ]

    rises_once : (xs : List X) → IsNonDecreasingBy n xs → IsNonDecreasingBy n (dedup E xs)
    rises_once [] rise = rise
    rises_once (x ∷ xs) rise = rises_from x xs (rises_head x xs rise) (rises_tail x xs rise)

    pub rises_still : (sorted news : List X) → IsFiltered (DiffersFromLast E) [] sorted news → IsNonDecreasingBy n sorted → IsNonDecreasingBy n news
    rises_still sorted news once rise = subst (IsNonDecreasingBy n) (sym (dedup_is E sorted news once)) (rises_once sorted rise)

-- what is the same has what each of the others has
pub all_same : {X : Type 0} (P : X → Type 0) (olds news : List X) → HasSame olds news → All P olds → All P news
all_same P olds news same all k d less = All-contains P olds (get_or news k d) all (same.within (get_or news k d) (Contains-get_or news k d less))

-- ---- dependencies

abbrev pub dependency_cmp : Dependency → Dependency → Ordering
dependency_cmp a b = ordering_then (range_cmp (entry_range a.field) (entry_range b.field)) (nat_cmp a.dependent b.dependent)

less_first : (a b : ℕ) (o : Ordering) → a < b → is_lt (ordering_then (nat_cmp a b) o) ≡ true
less_first a b o less = ap (λ r. is_lt (ordering_then r o)) (sym (nat_cmp_is a b Less less))

less_second : (a b : ℕ) (o : Ordering) → a ≡ b → is_lt o ≡ true → is_lt (ordering_then (nat_cmp a b) o) ≡ true
less_second a b o same e = ap (λ r. is_lt (ordering_then r o)) (sym (nat_cmp_is a b Equal same)) ∙ e

less_then : (r o : Ordering) → is_lt r ≡ true → is_lt (ordering_then r o) ≡ true
less_then Less o e = refl
less_then Equal o e = absurd (false≢true e)
less_then Greater o e = absurd (false≢true e)

not_below : (y x : Dependency) → y.field.offset < 65536 → x.field.offset < 65536 → is_lt (dependency_cmp y x) ≡ false → first_of x ≤ first_of y
not_below y x small small' e = elim (cases_lt y.field.store x.field.store) [
  | inl less ↦ absurd (false≢true (sym e ∙ less_then (range_cmp (entry_range y.field) (entry_range x.field)) (nat_cmp y.dependent x.dependent) (less_first y.field.store x.field.store _ less)))
  | inr from ↦ elim (cases_eq y.field.store x.field.store) [
    | inl same ↦ elim (cases_lt y.field.offset x.field.offset) [
      | inl less ↦ absurd (false≢true (sym e ∙ less_then (range_cmp (entry_range y.field) (entry_range x.field)) (nat_cmp y.dependent x.dependent) (less_second y.field.store x.field.store _ same (less_first y.field.offset x.field.offset _ less))))
      | inr up ↦ omega (arith, same, up)
    ]
    | inr other ↦ let more : x.field.store < y.field.store = grind (arith) in omega (arith, more, small')
  ]
]

pub dependencies_rise : (rs : List Dependency) → AreSmall rs → IsSorted dependency_cmp rs → AreSorted rs
dependencies_rise rs small sorted = IsNonDecreasingBy-from_all_adjacent first_of rs (λ k d less. not_below (get_or rs (k + 1) d) (get_or rs k d) (small (k + 1) d less) (small k d (omega (arith, less))) (sorted k d (omega arith) less))

abbrev pub dependency_eq : Dependency → Dependency → Bool
dependency_eq a b = (a.field.store == b.field.store && (a.field.offset == b.field.offset && a.field.width == b.field.width)) && a.dependent == b.dependent

pub same_dependency : (x y : Dependency) → dependency_eq x y ≡ true → x ≡ y
same_dependency x y e =
    let whole = and_parts (x.field.store == y.field.store && (x.field.offset == y.field.offset && x.field.width == y.field.width)) (x.dependent == y.dependent) e in
    let first = and_parts (x.field.store == y.field.store) (x.field.offset == y.field.offset && x.field.width == y.field.width) whole.0 in
    let second = and_parts (x.field.offset == y.field.offset) (x.field.width == y.field.width) first.1 in
    ap (λ (n : ℕ). record { field = record { store = n; offset = x.field.offset; width = x.field.width }; dependent = x.dependent }) (eqb-true x.field.store y.field.store first.0)
    ∙ ap (λ (n : ℕ). record { field = record { store = y.field.store; offset = n; width = x.field.width }; dependent = x.dependent }) (eqb-true x.field.offset y.field.offset second.0)
    ∙ ap (λ (n : ℕ). record { field = record { store = y.field.store; offset = y.field.offset; width = n }; dependent = x.dependent }) (eqb-true x.field.width y.field.width second.1)
    ∙ ap (λ (n : ℕ). record { field = y.field; dependent = n }) (eqb-true x.dependent y.dependent whole.1)

-- ---- rule uses

abbrev pub rule_use_eq : RuleUse → RuleUse → Bool
rule_use_eq a b = a.rule == b.rule && a.dependent == b.dependent

pub same_rule_use : (x y : RuleUse) → rule_use_eq x y ≡ true → x ≡ y
same_rule_use x y e =
    let both = and_parts (x.rule == y.rule) (x.dependent == y.dependent) e in
    ap (λ (n : ℕ). record { rule = n; dependent = x.dependent }) (eqb-true x.rule y.rule both.0) ∙ ap (λ (n : ℕ). record { rule = y.rule; dependent = n }) (eqb-true x.dependent y.dependent both.1)

abbrev pub rule_use_cmp : RuleUse → RuleUse → Ordering
rule_use_cmp a b = ordering_then (nat_cmp a.rule b.rule) (nat_cmp a.dependent b.dependent)

rule_use_not_below : (y x : RuleUse) → is_lt (rule_use_cmp y x) ≡ false → x.rule ≤ y.rule
rule_use_not_below y x e = elim (cases_lt y.rule x.rule) [
  | inl less ↦ absurd (false≢true (sym e ∙ less_first y.rule x.rule _ less))
  | inr from ↦ from
]

pub rule_uses_rise : (rule_uses : List RuleUse) → IsSorted rule_use_cmp rule_uses → RulesRise rule_uses
rule_uses_rise rule_uses sorted = IsNonDecreasingBy-from_all_adjacent (λ (l : RuleUse). l.rule) rule_uses (λ k d less. rule_use_not_below (get_or rule_uses (k + 1) d) (get_or rule_uses k d) (sorted k d (omega arith) less))
