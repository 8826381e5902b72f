-- The expression of a dependent, at whose place a condition stands or which is the next rule.
use Rattle.std.proofs.Common.{None, Some, Option, ◌≡◌, ℕ, ◌+◌, ◌<◌, ◌==◌, ◌&&◌, ◌||◌, not, true, false, List, [], ◌∷◌, length, map, filter, drop, get_or, refl, sym, ap, ◌∙◌, inl, inr}
use Rattle.std.specs.Iterator.{YieldsFirstBy}
use Rattle.std.proofs.lemmas.Bool.{cases_Bool, cond-true, cond-false, eqb-true, and_parts, false≢true, true≢false}
use Rattle.std.proofs.lemmas.List.{drop_more, get_or-map}
use Rattle.ifr_opcodes.specs.declared.codes.TheConstants.{RULE}
use Rattle.ifr_opcodes.specs.Forest.{Node}
use Rattle.ifr_opcodes.specs.Opcode.{number}
use Rattle.ifr_opcodes.specs.Reading.{tree_of}
use Rattle.ifr_expr.specs.Trees.{Tree}
use Rattle.ifr_expr.specs.Meaning.{value}
use Rattle.ifr_expr.specs.Values.{holds}
use Rattle.ifr_expr.specs.code.Expressions.{tree_of as expression_of}
use Rattle.ifr_nodes.specs.Accepted.{IsAccepted}
use Rattle.ifr_nodes.specs.code.Checked.{or_empty}
use Rattle.ifr_nodes.specs.Guards.{is_guard}
use Rattle.ifr_index.specs.code.Index.{is_conditional, conditional_at}
use Rattle.ifr_scopes.specs.code.Lists.{rule_node, rules_left}
use Rattle.ifr_opcodes.specs.Rows.{row_of, is_condition_number}
use Rattle.ifr_nodes.specs.Nodes.{nodes_of, this_of}
use Rattle.ifr_nodes.specs.Rules.{is_rule}
use Rattle.ifr_scopes.specs.declared.rule.RuleView.{RuleView}
use Rattle.ifr_scopes.specs.declared.rule.RuleViews.{RuleViews}
use Rattle.ifr_scopes.proofs.FormPlaceLemmas.{found}
use Rattle.ifr_nodes.proofs.PlaceLemmas.{is_found}
use Rattle.ifr_nodes.specs.code.Rules.{rules_of}
use Rattle.hii_questions.specs.Answers.{answers}
use Rattle.hii_varstore.specs.Stores.{StoreMap}
use Rattle.guard_policy.specs.Conditions.{is_kept}
use Rattle.guard_policy.specs.World.{world_over}
use Rattle.guard_policy.specs.code.Worlds.{is_met_at, is_met_if}
use Rattle.guard_policy.proofs.ToldLemmas.{kept_conditional, kind_found}
use Rattle.kept_conditions.specs.code.Collection.{IsExpressionOf, dependent_nodes, dependent_node}
use Rattle.kept_conditions.specs.declared.collection.DependentExpression.{DependentExpression}
use Rattle.kept_conditions.proofs.DependentLemmas.{dependent_among, dependent_is, node_is_dependent, dependent_kind}

-- ---- kinds

unconditional_rule : (code : ℕ) → code ≡ RULE → is_guard code || is_condition_number code ≡ false
unfolding is_condition_number row_of
unconditional_rule code e = rw e refl

-- an iterator that has something left gives it
yields : {S X Y : Type 0} (view : X → Y) (rest : S → List Y) (old new : S) (o : Option X) (y : Y) (ys : List Y) → YieldsFirstBy view rest old o new → rest old ≡ y ∷ ys → (x : X) × (o ≡ Some x) × (view x ≡ y) × (rest new ≡ ys)
yields view rest old new None y ys steps is = let bad : [] ≡ y ∷ ys = sym steps.0 ∙ is in absurd cc
yields view rest old new (Some x) y ys steps is =
    let both : view x ∷ rest new ≡ y ∷ ys = sym steps ∙ is in
    (x, refl, cc, cc)

-- ---- at the place of a dependent

module _ (bytes : List ℕ) (accepted : IsAccepted bytes) (k : ℕ) (less : k < length (dependent_nodes (nodes_of bytes))) where
  abbrev ns : List Node
  ns = nodes_of bytes

  abbrev n : Node
  n = dependent_node ns k

  kept : is_rule n ≡ false → is_kept n ≡ true
  kept other = sym (dependent_kind n (node_is_dependent ns k less)) ∙ ap not other

  -- what has a condition is no rule
  pub condition_there : (m : Node) (place : ℕ) → place ≡ n.place → Some m ≡ conditional_at ns place → (m ≡ n) × (is_rule n ≡ false)
  condition_there m place here e =
      let it = found (λ x. is_conditional x && (x.place == n.place)) ns m (sym (e ∙ ap (conditional_at ns) here)) in
      let both = and_parts (is_conditional m) (m.place == n.place) it.1 in
      let same : n ≡ m = dependent_is bytes accepted m k it.0 less (sym (eqb-true m.place n.place both.1)) in (
        sym same,
        elim (cases_Bool (is_rule n)) [
          | inl rule ↦ absurd (false≢true (sym (unconditional_rule (number n.op) (eqb-true (number n.op) RULE rule)) ∙ ap is_conditional same ∙ both.0))
          | inr other ↦ other
        ],
      )

  -- what is no rule has a condition
  has_condition : is_rule n ≡ false → conditional_at ns n.place ≡ Some n
  has_condition other = kind_found is_conditional ns n (is_found bytes (tree_of bytes) n accepted.checked.spelled (dependent_among ns k less)) (kept_conditional n (kept other))

  rule_there : None ≡ conditional_at ns n.place → is_rule n ≡ true
  rule_there e = elim (cases_Bool (is_rule n)) [
    | inl rule ↦ rule
    | inr other ↦
        let there = has_condition other in
        let bad : ◌≡◌ {A = Option Node} None (Some n) = e ∙ there in
        absurd cc
  ]

  no_condition : (o : Option Node) → conditional_at ns n.place ≡ o → is_rule n ≡ true → o ≡ None
  no_condition None e rule = refl
  no_condition (Some m) e rule = absurd (true≢false (sym rule ∙ (condition_there m n.place refl (sym e)).1))

  -- no condition holds at the place of a rule
  pub none_holds : (removed : List ℕ) (stores : StoreMap) → is_rule n ≡ true → false ≡ is_met_at (world_over ns removed stores) n.place
  none_holds removed stores rule = sym (ap (is_met_if (world_over ns removed stores)) (no_condition (conditional_at ns n.place) refl rule))

  -- at that of another the one holds whose expression does
  pub expression_holds : (removed : List ℕ) (stores : StoreMap) (d : DependentExpression) → IsExpressionOf n d → is_rule n ≡ false
      → holds (value (rules_of bytes) (answers ns stores) d.this (expression_of d.expression)) ≡ is_met_at (world_over ns removed stores) n.place
  expression_holds removed stores d is other =
      let by = value (rules_of bytes) (answers ns stores) in
      ap (λ (this : ℕ). holds (by this (expression_of d.expression))) (is.this ∙ cond-false (is_rule n) 0 (this_of n) other)
      ∙ ap (λ (e : Tree). holds (by (this_of n) e)) is.tree ∙ sym (ap (is_met_if (world_over ns removed stores)) (has_condition other))

  -- ---- the rules that are left

  first_left : drop k (dependent_nodes ns) ≡ n ∷ drop (k + 1) (dependent_nodes ns)
  first_left = drop_more (dependent_nodes ns) k (or_empty None) less

  pub rules_stay : is_rule n ≡ false → filter is_rule (drop k (dependent_nodes ns)) ≡ filter is_rule (drop (k + 1) (dependent_nodes ns))
  rules_stay other = ap (filter is_rule) first_left ∙ cond-false (is_rule n) (n ∷ filter is_rule (drop (k + 1) (dependent_nodes ns))) (filter is_rule (drop (k + 1) (dependent_nodes ns))) other

  rule_first : is_rule n ≡ true → filter is_rule (drop k (dependent_nodes ns)) ≡ n ∷ filter is_rule (drop (k + 1) (dependent_nodes ns))
  rule_first rule = ap (filter is_rule) first_left ∙ cond-true (is_rule n) (n ∷ filter is_rule (drop (k + 1) (dependent_nodes ns))) (filter is_rule (drop (k + 1) (dependent_nodes ns))) rule

  -- what has none is the next rule
  pub next_rule : (place : ℕ) → place ≡ n.place → None ≡ conditional_at ns place → (old new : RuleViews) (o : Option RuleView) → rules_left old ≡ filter is_rule (drop k (dependent_nodes ns)) → YieldsFirstBy rule_node rules_left old o new
      → (is_rule n ≡ true) × (rule : RuleView) × (o ≡ Some rule) × (rule_node rule ≡ n) × (rules_left new ≡ filter is_rule (drop (k + 1) (dependent_nodes ns)))
  next_rule place here none old new o left steps =
      let rule : is_rule n ≡ true = rule_there (none ∙ ap (conditional_at ns) here) in
      let it = yields rule_node rules_left old new o n (filter is_rule (drop (k + 1) (dependent_nodes ns))) steps (left ∙ rule_first rule) in
      (rule, it.0, it.1, it.2, it.3)

-- the place of the dependent of a number
pub place_number : (ns : List Node) (places : List ℕ) (k : ℕ) (d : ℕ) → places ≡ map (λ (n : Node). n.place) (dependent_nodes ns) → k < length (dependent_nodes ns) → get_or places k d ≡ (dependent_node ns k).place
place_number ns places k d placed less = ap (λ l. get_or l k d) placed ∙ get_or-map (λ (n : Node). n.place) (dependent_nodes ns) k (or_empty None) d less
