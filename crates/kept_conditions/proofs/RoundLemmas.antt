-- A round over the dependents of a package.
use Rattle.std.proofs.Common.{◌≡◌, ℕ, ◌+◌, ◌<◌, ◌==◌, ◌||◌, Bool, true, false, List, [], ◌∷◌, length, map, filter, get_or, refl, sym, ap, ◌∙◌, subst, inl, inr, arith}
use Rattle.std.specs.Prelude.{All}
use Rattle.std.specs.List.{list_any}
use Rattle.std.specs.Vec.{vec_capacity}
use Rattle.std.proofs.lemmas.Bool.{cases_Bool, cond-true, cond-false, ne_eqb, false≢true}
use Rattle.std.proofs.lemmas.List.Sums.{sum_by-cons}
use Rattle.std.proofs.Math.Bool.{or-false}
use Rattle.hii_bytes.specs.code.FirstFaults.{Rise}
use Rattle.ifr_opcodes.specs.Forest.{Node}
use Rattle.ifr_expr.specs.code.RuleValues.{KnownValues}
use Rattle.ifr_nodes.specs.Nodes.{nodes_of}
use Rattle.ifr_nodes.specs.Rules.{is_rule}
use Rattle.hii_varstore.specs.Stores.{StoreMap}
use Rattle.guard_policy.specs.code.KeptConditions.{TellsAll}
use Rattle.guard_policy.specs.code.RuleValues.{AreRuleValues}
use Rattle.guard_policy.specs.code.Views.{bytes_of, world}
use Rattle.guard_policy.specs.code.Worlds.{is_met_at}
use Rattle.guard_policy.specs.declared.policy.Policy.{Policy}
use Rattle.kept_conditions.specs.Kept.{told_over}
use Rattle.kept_conditions.specs.code.Cache.{IsIndex, value_of, values_of}
use Rattle.kept_conditions.specs.code.Index.{RulesRise, depends_on}
use Rattle.kept_conditions.specs.code.Collection.{dependent_nodes, is_touched}
use Rattle.kept_conditions.specs.code.Dependents.{at_number, is_condition, timeless, rules_in, was_visited, AreBefore, AreRuleUses, Follow, VisitsSome, HasRoom, KeepsSound}
use Rattle.kept_conditions.specs.laws.Writes.{IsWrite}
use Rattle.kept_conditions.specs.Touching.{renewals}
use Rattle.kept_conditions.specs.declared.index.Index.{Index}
use Rattle.kept_conditions.specs.declared.index.RuleUse.{RuleUse}
use Rattle.kept_conditions.specs.declared.dependents.Dependent.{Dependent}
use Rattle.kept_conditions.specs.declared.dependents.Dependents.{Dependents}
use Rattle.kept_conditions.proofs.VisitsSomeLemmas.{AreVisited, visits_then, rule_uses_kept}
use Rattle.kept_conditions.proofs.KeptLemmas.{counted, kinds_after, places_after, round_after, values_after}
use Rattle.kept_conditions.proofs.DependentLemmas.{TellsOver, many, rule_at, told_kept}
use Rattle.kept_conditions.proofs.TouchLemmas.{visited_touched, depending_touched, dependents_touched}
use Rattle.kept_conditions.proofs.FilterLemmas.{one}

-- ---- what does not tell of rounds

timeless_map : {X : Type 0} (f : Dependent → X) → ((r : Dependent) → f (timeless r) ≡ f r) → (rs : List Dependent) → map f rs ≡ map f (map timeless rs)
timeless_map f same [] = refl
timeless_map f same (r ∷ rs) = ap (λ x. x ∷ map f rs) (sym (same r)) ∙ ap (λ l. f (timeless r) ∷ l) (timeless_map f same rs)

timeless_values : (rs : List Dependent) → map value_of (filter is_condition rs) ≡ map value_of (filter is_condition (map timeless rs))
timeless_values [] = refl
timeless_values (r ∷ rs) = elim (cases_Bool (is_condition r)) [
  | inl takes ↦
      ap (map value_of) (cond-true (is_condition r) (r ∷ filter is_condition rs) (filter is_condition rs) takes) ∙ ap (λ l. value_of r ∷ l) (timeless_values rs)
      ∙ sym (ap (map value_of) (cond-true (is_condition r) (timeless r ∷ filter is_condition (map timeless rs)) (filter is_condition (map timeless rs)) takes))
  | inr leaves ↦
      ap (map value_of) (cond-false (is_condition r) (r ∷ filter is_condition rs) (filter is_condition rs) leaves) ∙ timeless_values rs
      ∙ sym (ap (map value_of) (cond-false (is_condition r) (timeless r ∷ filter is_condition (map timeless rs)) (filter is_condition (map timeless rs)) leaves))
]

timeless_rules : (rs : List Dependent) → rules_in rs ≡ rules_in (map timeless rs)
timeless_rules [] = refl
timeless_rules (r ∷ rs) =
    let behind = timeless_rules rs in
    let left = sum_by-cons (λ (x : Dependent). one x.is_rule) r rs in
    let right = sum_by-cons (λ (x : Dependent). one x.is_rule) (timeless r) (map timeless rs) in
    omega (arith, behind, left, right)

same_map : {X : Type 0} (f : Dependent → X) → ((r : Dependent) → f (timeless r) ≡ f r) → (xs ys : List Dependent) → map timeless xs ≡ map timeless ys → map f xs ≡ map f ys
same_map f same xs ys e = timeless_map f same xs ∙ ap (map f) e ∙ sym (timeless_map f same ys)

-- ---- the parts of a round

-- it begins
pub record Begins (ifr : List ℕ) (start fresh : Dependents) (index : Index) : Type 0 where
  pub is : IsIndex ifr start index
  pub before : AreBefore fresh.round fresh.list.items
  pub same : map timeless fresh.list.items ≡ map timeless start.list.items
  pub pending : fresh.pending ≡ start.pending

-- those are visited that depend on what was written
pub record VisitsTouched (holding : ℕ → Bool) (written : ℕ → ℕ → Bool) (index : Index) (fresh mid : Dependents) (some : ℕ) : Type 0 where
  pub visited : AreVisited holding (depends_on written index.dependencies.items) fresh mid some

-- and the dependents of rules
pub record Ends (holding : ℕ → Bool) (index : Index) (rule_uses : List RuleUse) (mid finished : Dependents) (others : ℕ) : Type 0 where
  pub rule_uses_are : rule_uses ≡ index.rule_uses.items
  pub visits : VisitsSome holding mid finished others
  pub idle : finished.pending.items ≡ []
  pub follow : Follow (λ _. false) rule_uses finished
  pub sound : KeepsSound rule_uses mid finished

-- the conditions are evaluated by a policy over the stores
pub told_by : (policy over : Policy) (now stores : StoreMap) → over ≡ policy → stores ≡ now → TellsAll (is_met_at (world policy now)) (world policy now) → TellsOver (is_met_at (world over stores)) (nodes_of (bytes_of policy)) now
told_by policy over now stores same alike tells =
    let ns = nodes_of (bytes_of policy) in
    subst (λ (p : Policy). TellsOver (is_met_at (world p stores)) ns now) (sym same)
    (subst (λ (m : StoreMap). TellsOver (is_met_at (world policy m)) ns now) (sym alike)
    (told_kept (is_met_at (world policy now)) ns policy.removed.now now tells))

-- values of rules over what is evaluated, and over the stores of which it was made
pub values_by : (policy over : Policy) (now stores : StoreMap) → over ≡ policy → stores ≡ now → (values : KnownValues) → AreRuleValues (bytes_of policy) now values → AreRuleValues (bytes_of over) stores values
values_by policy over now stores same alike values are =
    subst (λ (p : Policy). AreRuleValues (bytes_of p) stores values) (sym same) (subst (λ (m : StoreMap). AreRuleValues (bytes_of policy) m values) (sym alike) are)

pub values_for : (policy over : Policy) (now stores : StoreMap) → over ≡ policy → stores ≡ now → (values : KnownValues) → AreRuleValues (bytes_of over) stores values → AreRuleValues (bytes_of policy) now values
values_for policy over now stores same alike values are = values_by over policy stores now (sym same) (sym alike) values are

module _ {ifr : List ℕ} {start fresh : Dependents} {index : Index} (begun : Begins ifr start fresh index) where
  is : IsIndex ifr start index
  is = begun.is

  abbrev ns : List Node
  ns = nodes_of ifr

  fresh_placed : map (λ (r : Dependent). r.place) fresh.list.items ≡ map (λ (n : Node). n.place) (dependent_nodes ns)
  fresh_placed = same_map (λ r. r.place) (λ r. refl) fresh.list.items start.list.items begun.same ∙ is.placed

  fresh_kinds : map (λ (r : Dependent). r.is_rule) fresh.list.items ≡ map is_rule (dependent_nodes ns)
  fresh_kinds = same_map (λ r. r.is_rule) (λ r. refl) fresh.list.items start.list.items begun.same ∙ is.kinds

  fresh_values : values_of fresh ≡ values_of start
  fresh_values = timeless_values fresh.list.items ∙ ap (λ l. map value_of (filter is_condition l)) begun.same ∙ sym (timeless_values start.list.items)

  fresh_size : length fresh.list.items ≡ length (dependent_nodes ns)
  fresh_size = many ns fresh.list.items fresh_placed fresh_kinds

  fresh_idle : fresh.pending.items ≡ []
  fresh_idle = ap (λ v. v.items) begun.pending ∙ is.idle

  never_visited : (k : ℕ) → k < length fresh.list.items → was_visited fresh k ≡ false
  never_visited k less = ne_eqb (at_number fresh.list.items k).round fresh.round (λ e. omega (arith, e, begun.before k less))

  pub fresh_room : HasRoom fresh
  fresh_room = record {
    visited = λ k e. absurd (false≢true (sym (ap (list_any (λ n. n == k)) fresh_idle) ∙ e));
    some = omega (arith, ap (λ (l : List ℕ). length l) fresh_idle);
    all = omega (arith, is.room, timeless_rules fresh.list.items, timeless_rules start.list.items, ap rules_in begun.same, ap (λ v. vec_capacity v) begun.pending);
  }

  fresh_rule_uses : AreRuleUses fresh.list.items index.rule_uses.items
  fresh_rule_uses k d less =
      let l = get_or index.rule_uses.items k d in
      let rule_use = is.are_uses k d less in
      let inside : l.rule < length fresh.list.items = omega (arith, rule_use.rule, fresh_size) in
      (inside, rule_at ns fresh.list.items fresh_placed fresh_kinds l.rule inside ∙ rule_use.named, omega (arith, rule_use.dependent, fresh_size))

  fresh_follow : Follow (λ _. false) index.rule_uses.items fresh
  fresh_follow k d less e = absurd (false≢true (sym (never_visited (get_or index.rule_uses.items k d).rule (let rule_use = fresh_rule_uses k d less in rule_use.0)) ∙ e))

  -- ---- those that depend on what was written

  module _ {holding : ℕ → Bool} {written : ℕ → ℕ → Bool} {mid : Dependents} {some : ℕ} (touching : VisitsTouched holding written index fresh mid some) where
    -- what the next part asks
    pub mid_ready : (rule_uses : List RuleUse) → rule_uses ≡ index.rule_uses.items → record { sorted : RulesRise rule_uses; are_uses : AreRuleUses mid.list.items rule_uses; room : HasRoom mid; follow : Follow (λ _. false) rule_uses mid }
    mid_ready rule_uses same = record {
      sorted = subst RulesRise (sym same) is.by_rule;
      are_uses = subst (AreRuleUses mid.list.items) (sym same) (rule_uses_kept holding fresh mid some touching.visited.visits index.rule_uses.items fresh_rule_uses);
      room = touching.visited.visits.room fresh_room;
      follow = subst (λ (l : List RuleUse). Follow (λ _. false) l mid) (sym same) (touching.visited.follows (λ _. false) index.rule_uses.items fresh_rule_uses fresh_follow);
    }

    -- ---- and the dependents of rules

    module _ {rule_uses : List RuleUse} {finished : Dependents} {others : ℕ} (ending : Ends holding index rule_uses mid finished others) where
      all_visits : VisitsSome holding fresh finished (some + others)
      all_visits = visits_then holding fresh mid some touching.visited.visits finished others ending.visits

      mid_size : length mid.list.items ≡ length (dependent_nodes ns)
      mid_size = touching.visited.visits.size ∙ fresh_size

      visited_mid : (k : ℕ) → k < length (dependent_nodes ns) → was_visited mid k ≡ depends_on written index.dependencies.items k
      visited_mid k less =
          let inside : k < length fresh.list.items = omega (arith, less, fresh_size) in
          touching.visited.reaches k inside ∙ ap (λ b. depends_on written index.dependencies.items k || b) (never_visited k inside) ∙ or-false (depends_on written index.dependencies.items k)

      follow : Follow (λ _. false) index.rule_uses.items finished
      follow = subst (λ (l : List RuleUse). Follow (λ _. false) l finished) ending.rule_uses_are ending.follow

      sound : KeepsSound index.rule_uses.items mid finished
      sound = subst (λ (l : List RuleUse). KeepsSound l mid finished) ending.rule_uses_are ending.sound

      closed : All (λ (l : RuleUse). was_visited finished l.rule ≡ true → was_visited finished l.dependent ≡ true) index.rule_uses.items
      closed k d less e =
          let l = get_or index.rule_uses.items k d in
          let either : (was_visited finished l.dependent || list_any (λ n. n == l.rule) finished.pending.items) ≡ true = follow k d less e in
          sym (or-false (was_visited finished l.dependent)) ∙ sym (ap (λ ws. was_visited finished l.dependent || list_any (λ n. n == l.rule) ws) ending.idle) ∙ either

      touched : (k : ℕ) → k < length fresh.list.items → was_visited finished k ≡ is_touched ns written k
      touched k less =
          visited_touched ns written index.dependencies.items index.rule_uses.items is.are_uses (is.found written) (was_visited finished)
          (λ j inside e. ending.visits.more j (omega (arith, inside, mid_size)) (visited_mid j inside ∙ e)) closed
          (λ j inside e. sound (is_touched ns written) (dependents_touched ns written index.dependencies.items index.rule_uses.items is.are_uses (is.found written))
          (λ i within visited. depending_touched ns written index.dependencies.items index.rule_uses.items is.are_uses (is.found written) i (omega (arith, within, mid_size)) (sym (visited_mid i (omega (arith, within, mid_size))) ∙ visited)) j (omega (arith, inside, mid_size)) e)
          k (omega (arith, less, fresh_size))

      pub finished_count : some + others ≡ renewals ns written
      finished_count = counted ns holding written fresh finished (some + others) fresh_placed fresh_kinds begun.before all_visits touched

      pub finished_values : (stores now : StoreMap) → IsWrite written stores now → TellsOver holding ns now → values_of start ≡ told_over ifr stores → values_of finished ≡ told_over ifr now
      finished_values stores now write tells were = values_after ns holding written fresh finished (some + others) fresh_placed fresh_kinds begun.before all_visits touched stores now write (fresh_values ∙ were) tells

      pub finished_index : IsIndex ifr finished index
      finished_index = record {
        placed = finished_placed;
        kinds = kinds_after ns holding written fresh finished (some + others) fresh_placed fresh_kinds begun.before all_visits touched;
        rise = subst (Rise (λ (x : ℕ). x) 0) (is.placed ∙ sym finished_placed) is.rise;
        rounds = λ k less. round_after ns holding written fresh finished (some + others) fresh_placed fresh_kinds begun.before all_visits touched k (omega (arith, less, all_visits.size));
        idle = ending.idle;
        room = (all_visits.room fresh_room).all;
        sorted = is.sorted;
        all = is.all;
        summed = is.summed;
        gaps = is.gaps;
        numbers = is.numbers;
        small = is.small;
        by_rule = is.by_rule;
        are_uses = is.are_uses;
        found = is.found;
      }
        where
          finished_placed : map (λ (r : Dependent). r.place) finished.list.items ≡ map (λ (n : Node). n.place) (dependent_nodes ns)
          finished_placed = places_after ns holding written fresh finished (some + others) fresh_placed fresh_kinds begun.before all_visits touched
