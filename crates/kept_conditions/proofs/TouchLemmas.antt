-- The dependents that are visited are those that depend on what was written.
use Rattle.std.proofs.Common.{◌≡◌, ◌⊎◌, ℕ, zero, suc, ◌<◌, ◌==◌, ◌&&◌, ◌||◌, Bool, true, List, [], ◌∷◌, length, get_or, refl, sym, ap, ◌∙◌, subst, inl, inr, arith}
use Rattle.std.specs.Prelude.{All}
use Rattle.std.specs.List.{list_any}
use Rattle.std.proofs.lemmas.Bool.{cases_Bool, and_parts, eqb-true, eq-eqb, false≢true}
use Rattle.std.proofs.lemmas.List.Folds.{list_any_at}
use Rattle.std.proofs.Math.Bool.{or-true}
use Rattle.ifr_opcodes.specs.Forest.{Node}
use Rattle.ifr_nodes.specs.Nodes.{end_of}
use Rattle.ifr_nodes.specs.Rules.{is_rule}
use Rattle.kept_conditions.specs.code.Collection.{IsRuleUse, finds, is_used, dependent_nodes, dependent_node, is_touched}
use Rattle.kept_conditions.specs.code.Index.{depends_on}
use Rattle.kept_conditions.specs.declared.index.RuleUse.{RuleUse}
use Rattle.kept_conditions.specs.declared.index.Dependency.{Dependency}

-- an element that passes
some_passes : {X : Type 0} (p : X → Bool) (xs : List X) (d : X) → list_any p xs ≡ true → (k : ℕ) × (k < length xs) × (p (get_or xs k d) ≡ true)
some_passes p [] d e = absurd (false≢true e)
some_passes p (x ∷ xs) d e = elim (cases_Bool (p x)) [
  | inl here ↦ (0, omega arith, here)
  | inr other ↦
      let later = some_passes p xs d (sym (ap (λ b. b || list_any p xs) other) ∙ e) in
      (suc later.0, omega (arith, later.1), later.2)
]

module _ (ns : List Node) (bytes : ℕ → ℕ → Bool) (dependencies : List Dependency) (rule_uses : List RuleUse) (are_uses : All (IsRuleUse ns) rule_uses)
    (found : (k : ℕ) → k < length (dependent_nodes ns) → finds ns bytes dependencies rule_uses k ≡ is_touched ns bytes k) where
  abbrev no_rule_use : RuleUse
  no_rule_use = record { rule = 0; dependent = 0 }

  pub depending_touched : (k : ℕ) → k < length (dependent_nodes ns) → depends_on bytes dependencies k ≡ true → is_touched ns bytes k ≡ true
  depending_touched k less e = sym (found k less) ∙ ap (λ b. b || list_any (is_used (is_touched ns bytes) k) rule_uses) e

  -- what uses a rule that depends on a byte depends on it
  pub dependents_touched : All (λ (l : RuleUse). is_touched ns bytes l.rule ≡ true → is_touched ns bytes l.dependent ≡ true) rule_uses
  dependents_touched k d less e =
      let l = get_or rule_uses k d in
      let used = list_any_at (is_used (is_touched ns bytes) l.dependent) rule_uses k d less (ap (λ b. b && is_touched ns bytes l.rule) (eq-eqb l.dependent l.dependent refl) ∙ e) in
      sym (found l.dependent (are_uses k d less).dependent) ∙ ap (λ b. depends_on bytes dependencies l.dependent || b) used ∙ or-true (depends_on bytes dependencies l.dependent)

  module _ (visited : ℕ → Bool) (direct : (k : ℕ) → k < length (dependent_nodes ns) → depends_on bytes dependencies k ≡ true → visited k ≡ true) (closed : All (λ (l : RuleUse). visited l.rule ≡ true → visited l.dependent ≡ true) rule_uses) where
    -- it depends on a byte, or uses a rule that depends on one
    why : (k : ℕ) → k < length (dependent_nodes ns) → is_touched ns bytes k ≡ true
        → (depends_on bytes dependencies k ≡ true) ⊎ ((j : ℕ) × (j < length rule_uses) × ((get_or rule_uses j no_rule_use).dependent ≡ k) × (is_touched ns bytes (get_or rule_uses j no_rule_use).rule ≡ true))
    why k less e = elim (cases_Bool (depends_on bytes dependencies k)) [
      | inl depends_on ↦ inl depends_on
      | inr none ↦
          let used : list_any (is_used (is_touched ns bytes) k) rule_uses ≡ true = sym (ap (λ b. b || list_any (is_used (is_touched ns bytes) k) rule_uses) none) ∙ found k less ∙ e in
          let some = some_passes (is_used (is_touched ns bytes) k) rule_uses no_rule_use used in
          let l = get_or rule_uses some.0 no_rule_use in
          let both = and_parts (l.dependent == k) (is_touched ns bytes l.rule) some.2 in
          inr (some.0, some.1, eqb-true l.dependent k both.0, both.1)
    ]

    -- rules, one behind the other
    rules_visited : (below k : ℕ) → k < length (dependent_nodes ns) → is_rule (dependent_node ns k) ≡ true → end_of (dependent_node ns k) < below → is_touched ns bytes k ≡ true → visited k ≡ true
    rules_visited zero k less rule inside e = absurd (omega (arith, inside))
    rules_visited (suc below) k less rule inside e = elim (why k less e) [
      | inl depends_on ↦ direct k less depends_on
      | inr some ↦
          let l = get_or rule_uses some.0 no_rule_use in
          let rule_use = are_uses some.0 no_rule_use some.1 in
          let before : end_of (dependent_node ns l.rule) < end_of (dependent_node ns l.dependent) = rule_use.before (ap (λ n. is_rule (dependent_node ns n)) some.2 ∙ rule) in
          let same : end_of (dependent_node ns l.dependent) ≡ end_of (dependent_node ns k) = ap (λ n. end_of (dependent_node ns n)) some.2 in
          let its = rules_visited below l.rule rule_use.rule rule_use.named (omega (arith, inside, before, same)) some.3 in
          subst (λ n. visited n ≡ true) some.2 (closed some.0 no_rule_use some.1 its)
    ]

    all_visited : (k : ℕ) → k < length (dependent_nodes ns) → is_touched ns bytes k ≡ true → visited k ≡ true
    all_visited k less e = elim (why k less e) [
      | inl depends_on ↦ direct k less depends_on
      | inr some ↦
          let l = get_or rule_uses some.0 no_rule_use in
          let rule_use = are_uses some.0 no_rule_use some.1 in
          let its = rules_visited (suc (end_of (dependent_node ns l.rule))) l.rule rule_use.rule rule_use.named (omega arith) some.3 in
          subst (λ n. visited n ≡ true) some.2 (closed some.0 no_rule_use some.1 its)
    ]

    pub visited_touched : ((k : ℕ) → k < length (dependent_nodes ns) → visited k ≡ true → is_touched ns bytes k ≡ true) → (k : ℕ) → k < length (dependent_nodes ns) → visited k ≡ is_touched ns bytes k
    visited_touched sound k less = elim (cases_Bool (visited k)) [
      | inl is ↦ is ∙ sym (sound k less is)
      | inr none ↦ elim (cases_Bool (is_touched ns bytes k)) [
        | inl touched ↦ absurd (false≢true (sym none ∙ all_visited k less touched))
        | inr other ↦ none ∙ sym other
      ]
    ]
