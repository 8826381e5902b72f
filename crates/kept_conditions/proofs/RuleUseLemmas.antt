-- The dependents of a rule.
use Rattle.std.proofs.Common.{◌≡◌, ℕ, ◌+◌, ◌-◌, ◌<◌, ◌==◌, ◌||◌, inl, inr, nat_le, nat_lt, Bool, true, false, List, [], ◌∷◌, ◌++◌, length, get_or, take, drop, filter, refl, sym, ap, ◌∙◌, subst, arith, length-take, length-drop, take-append-drop, append-nil}
use Rattle.std.specs.List.{list_any}
use Rattle.std.specs.List.Sorted.{IsPartitionPoint, IsPartitionedBy}
use Rattle.std.proofs.lemmas.Bool.{cases_Bool, eq-eqb, ne_eqb, leb-true, le-leb, ltb-true, false≢true, cond-true, cond-false, ltb-false}
use Rattle.std.proofs.lemmas.List.{get_or-take, get_or-drop}
use Rattle.std.proofs.lemmas.List.Elements.{filter-append, All-filter}
use Rattle.std.proofs.lemmas.List.Sorted.{IsPartitionedBy-leb, IsPartitionedBy-ltb, IsNonDecreasingBy-drop}
use Rattle.hii_values.proofs.OrderLemmas.{filter_none, filter_all}
use Rattle.kept_conditions.specs.code.Index.{RulesRise, uses}
use Rattle.kept_conditions.specs.code.Dependents.{at_number, AreRuleUses}
use Rattle.kept_conditions.specs.declared.index.RuleUse.{RuleUse}
use Rattle.kept_conditions.specs.declared.dependents.Dependent.{Dependent}

-- ---- the uses of a rule stand between two points

abbrev rule_of : RuleUse → ℕ
rule_of l = l.rule

abbrev is_at : ℕ → RuleUse → Bool
is_at rule l = l.rule == rule

pub parted_below : (rule : ℕ) (rule_uses : List RuleUse) → RulesRise rule_uses → IsPartitionedBy (λ (l : RuleUse). nat_lt l.rule rule) rule_uses
parted_below rule rule_uses rise = IsPartitionedBy-ltb rule_of rule_uses rule rise

pub parted_upto : (rule from : ℕ) (rule_uses rest : List RuleUse) → rest ≡ drop from rule_uses → RulesRise rule_uses → IsPartitionedBy (λ (l : RuleUse). nat_le l.rule rule) rest
parted_upto rule from rule_uses rest is rise = IsPartitionedBy-leb rule_of rest rule (subst RulesRise (sym is) (IsNonDecreasingBy-drop rule_of from rule_uses rise))

pub found_between : (rule : ℕ) (rule_uses rest : List RuleUse) (from count : ℕ) → rest ≡ drop from rule_uses
    → IsPartitionPoint (λ (l : RuleUse). nat_lt l.rule rule ≡ true) (λ (l : RuleUse). nat_lt l.rule rule ≡ false) rule_uses from
    → IsPartitionPoint (λ (l : RuleUse). nat_le l.rule rule ≡ true) (λ (l : RuleUse). nat_le l.rule rule ≡ false) rest count
    → take count rest ≡ filter (is_at rule) rule_uses
found_between rule rule_uses rest from count is below within =
    let whole : length rest ≡ length rule_uses - from = ap length is ∙ length-drop from rule_uses in
    let before : filter (is_at rule) (take from rule_uses) ≡ [] =
    filter_none (is_at rule) (take from rule_uses) (λ i d lt.
    let long = length-take from rule_uses in
    ap (is_at rule) (get_or-take from rule_uses i d (omega arith)) ∙ ne_eqb (get_or rule_uses i d).rule rule (λ e. let less = ltb-true (get_or rule_uses i d).rule rule (below.0 i d (omega arith) (omega arith)) in omega (arith, e, less))) in
    let here : filter (is_at rule) (take count rest) ≡ take count rest =
    filter_all (is_at rule) (take count rest) (λ i d lt.
    let long = length-take count rest in
    let there = ap (λ l. get_or l i d) is ∙ get_or-drop from rule_uses i d in
    let upper = leb-true (get_or rest i d).rule rule (within.0 i d (omega arith) (omega arith)) in
    let lower = ltb-false (get_or rest i d).rule rule (ap (λ (x : RuleUse). nat_lt x.rule rule) there ∙ below.1 (from + i) d (omega arith) (omega arith)) in
    ap (is_at rule) (get_or-take count rest i d (omega arith)) ∙ eq-eqb (get_or rest i d).rule rule (omega (arith, upper, lower))) in
    let behind : filter (is_at rule) (drop count rest) ≡ [] =
    filter_none (is_at rule) (drop count rest) (λ i d lt.
    let long = length-drop count rest in
    ap (is_at rule) (get_or-drop count rest i d) ∙ ne_eqb (get_or rest (count + i) d).rule rule (λ e. false≢true (sym (within.1 (count + i) d (omega arith) (omega arith)) ∙ le-leb (get_or rest (count + i) d).rule rule (omega (arith, e))))) in
    let second : filter (is_at rule) rest ≡ take count rest =
    ap (filter (is_at rule)) (sym (take-append-drop count rest)) ∙ filter-append (is_at rule) (take count rest) (drop count rest) ∙ ap (λ l. l ++ filter (is_at rule) (drop count rest)) here
    ∙ ap (λ l. take count rest ++ l) behind ∙ append-nil (take count rest) in
    sym (ap (filter (is_at rule)) (sym (take-append-drop from rule_uses)) ∙ filter-append (is_at rule) (take from rule_uses) (drop from rule_uses) ∙ ap (λ l. l ++ filter (is_at rule) (drop from rule_uses)) before
    ∙ ap (filter (is_at rule)) (sym is) ∙ second)

-- ---- its dependents

pub dependents_among : (rule k : ℕ) (rule_uses : List RuleUse) → list_any (λ (l : RuleUse). l.dependent == k) (filter (is_at rule) rule_uses) ≡ uses rule_uses rule k
dependents_among rule k [] = refl
dependents_among rule k (l ∷ rule_uses) = elim (cases_Bool (is_at rule l)) [
  | inl is ↦
      ap (list_any (λ (x : RuleUse). x.dependent == k)) (cond-true (is_at rule l) (l ∷ filter (is_at rule) rule_uses) (filter (is_at rule) rule_uses) is)
      ∙ rw is (ap (λ b. l.dependent == k || b) (dependents_among rule k rule_uses))
  | inr other ↦
      ap (list_any (λ (x : RuleUse). x.dependent == k)) (cond-false (is_at rule l) (l ∷ filter (is_at rule) rule_uses) (filter (is_at rule) rule_uses) other)
      ∙ rw other (dependents_among rule k rule_uses)
]

pub dependent_within : (rs : List Dependent) (rule_uses its_uses : List RuleUse) (rule i : ℕ) (d : RuleUse) → its_uses ≡ filter (is_at rule) rule_uses → AreRuleUses rs rule_uses → i < length its_uses → (get_or its_uses i d).dependent < length rs
dependent_within rs rule_uses its_uses rule i d is are_uses less =
    let all = All-filter (is_at rule) (λ (l : RuleUse). (l.rule < length rs) × ((at_number rs l.rule).is_rule ≡ true) × (l.dependent < length rs)) rule_uses are_uses in
    let its = all i d (subst (λ (l : List RuleUse). i < length l) is less) in
    subst (λ (l : List RuleUse). (get_or l i d).dependent < length rs) (sym is) its.2
