-- What is kept after a write.
use Rattle.std.proofs.Common.{None, ◌≡◌, ◌⊎◌, ℕ, ◌<◌, ◌≤◌, ◌&&◌, not, Bool, true, false, cond, List, length, map, count_by, refl, sym, ap, ◌∙◌, subst, inl, inr, arith}
use Rattle.std.proofs.lemmas.Bool.{cases_Bool, cond-true, cond-false, ne_eqb, not-true}
use Rattle.std.proofs.lemmas.List.{get_or-map, length-map, same_lists}
use Rattle.std.proofs.Math.Bool.{and-false}
use Rattle.ifr_opcodes.specs.Forest.{Node}
use Rattle.ifr_nodes.specs.code.Checked.{or_empty}
use Rattle.ifr_nodes.specs.Rules.{is_rule}
use Rattle.hii_varstore.specs.Stores.{StoreMap}
use Rattle.guard_policy.specs.Conditions.{is_kept}
use Rattle.kept_conditions.specs.Kept.{kept_nodes, told}
use Rattle.kept_conditions.specs.code.Cache.{value_of, values_of}
use Rattle.kept_conditions.specs.code.Collection.{dependent_nodes, dependent_node, is_touched}
use Rattle.kept_conditions.specs.code.Dependents.{no_dependent, at_number, is_condition, is_of, visited, visited_conditions, was_visited, AreBefore, VisitsSome}
use Rattle.kept_conditions.specs.Touching.{touches, renewals}
use Rattle.kept_conditions.specs.laws.Writes.{IsWrite}
use Rattle.kept_conditions.specs.declared.dependents.Dependent.{Dependent}
use Rattle.kept_conditions.specs.declared.dependents.Dependents.{Dependents}
use Rattle.kept_conditions.proofs.FilterLemmas.{map_aligned, values_aligned, count_filtered, same_count, none_count}
use Rattle.kept_conditions.proofs.VisitsSomeLemmas.{is_rule_kept}
use Rattle.kept_conditions.proofs.VisitsOneLemmas.{visited_new}
use Rattle.kept_conditions.proofs.DependentLemmas.{TellsOver, many, place_at, rule_at, kept_at, kept_dependents, touches_kept}
use Rattle.kept_conditions.proofs.UntouchedLemmas.{untouched}

module _ (ns : List Node) (holding : ℕ → Bool) (written : ℕ → ℕ → Bool) (old new : Dependents) (count : ℕ)
    (placed : map (λ (r : Dependent). r.place) old.list.items ≡ map (λ (n : Node). n.place) (dependent_nodes ns)) (kinds : map (λ (r : Dependent). r.is_rule) old.list.items ≡ map is_rule (dependent_nodes ns))
    (before : AreBefore old.round old.list.items) (visits : VisitsSome holding old new count)
    (touched : (k : ℕ) → k < length old.list.items → was_visited new k ≡ is_touched ns written k) where
  abbrev was : ℕ → Dependent
  was k = at_number old.list.items k

  abbrev is : ℕ → Dependent
  is k = at_number new.list.items k

  size : length old.list.items ≡ length (dependent_nodes ns)
  size = many ns old.list.items placed kinds

  inside : (k : ℕ) → k < length old.list.items → k < length (dependent_nodes ns)
  inside k less = subst (λ n. k < n) size less

  other_round : (k : ℕ) → k < length old.list.items → is_of old.round (was k) ≡ false
  other_round k less = ne_eqb (was k).round old.round (λ e. omega (arith, e, before k less))

  -- the dependent of a number after the write
  after : (k : ℕ) → k < length old.list.items
      → ((was_visited new k ≡ true) × (is k ≡ record { place = (was k).place; round = old.round; is_rule = (was k).is_rule; holds = cond (was k).is_rule (was k).holds (holding (was k).place) }))
      ⊎ ((was_visited new k ≡ false) × (is k ≡ was k))
  after k less = elim (cases_Bool (was_visited new k)) [
    | inl now ↦ inl (now, visits.each k less ∙ cond-true (was_visited new k) (visited holding old.round (was k)) (was k) now ∙ visited_new holding old.round (was k) (other_round k less))
    | inr never ↦ inr (never, visits.each k less ∙ cond-false (was_visited new k) (visited holding old.round (was k)) (was k) never)
  ]

  pub round_after : (k : ℕ) → k < length old.list.items → (is k).round ≤ new.round
  round_after k less = elim (after k less) [
    | inl it ↦ omega (arith, ap (λ (r : Dependent). r.round) it.1, visits.round)
    | inr it ↦ omega (arith, ap (λ (r : Dependent). r.round) it.1, visits.round, before k less)
  ]

  place_kept : (k : ℕ) → k < length old.list.items → (is k).place ≡ (was k).place
  place_kept k less = elim (after k less) [
    | inl it ↦ ap (λ (r : Dependent). r.place) it.1
    | inr it ↦ ap (λ (r : Dependent). r.place) it.1
  ]

  rule_kept : (k : ℕ) → k < length old.list.items → (is k).is_rule ≡ (was k).is_rule
  rule_kept k less = is_rule_kept holding old new count visits k less

  same_of : {X : Type 0} (f : Dependent → X) → ((k : ℕ) → k < length old.list.items → f (is k) ≡ f (was k)) → map f new.list.items ≡ map f old.list.items
  same_of f same =
      same_lists (map f new.list.items) (map f old.list.items) (length-map new.list.items f ∙ visits.size ∙ sym (length-map old.list.items f))
      (λ k d less.
      let within : k < length new.list.items = subst (λ n. k < n) (length-map new.list.items f) less in
      let within' : k < length old.list.items = subst (λ n. k < n) visits.size within in
      get_or-map f new.list.items k no_dependent d within ∙ same k within' ∙ sym (get_or-map f old.list.items k no_dependent d within'))

  pub places_after : map (λ (r : Dependent). r.place) new.list.items ≡ map (λ (n : Node). n.place) (dependent_nodes ns)
  places_after = same_of (λ r. r.place) place_kept ∙ placed

  pub kinds_after : map (λ (r : Dependent). r.is_rule) new.list.items ≡ map is_rule (dependent_nodes ns)
  kinds_after = same_of (λ r. r.is_rule) rule_kept ∙ kinds

  -- ---- how many were evaluated

  passes : (k : ℕ) → k < length old.list.items → (is_condition (is k) && is_of new.round (is k)) ≡ (is_kept (dependent_node ns k) && touches ns written (dependent_node ns k))
  passes k less =
      let n = dependent_node ns k in
      ap (λ b. b && was_visited new k) (ap not (rule_kept k less) ∙ kept_at ns old.list.items placed kinds k less)
      ∙ ap (λ b. is_kept n && b) (touched k less) ∙ either (is_kept n) (is_touched ns written k) (touches ns written n)
      (λ kept. touches_kept ns written k (not-true (is_rule n) (sym (ap not (rule_at ns old.list.items placed kinds k less)) ∙ kept_at ns old.list.items placed kinds k less ∙ kept)))
    where
      either : (a x y : Bool) → (a ≡ true → x ≡ y) → (a && x) ≡ (a && y)
      either true x y same = same refl
      either false x y same = refl

  pub counted : count ≡ renewals ns written
  counted =
      let none : visited_conditions old ≡ 0 = none_count (λ (r : Dependent). is_condition r && is_of old.round r) old.list.items no_dependent (λ k less. ap (λ b. is_condition (was k) && b) (other_round k less) ∙ and-false (is_condition (was k))) in
      let all : visited_conditions new ≡ count_by (λ n. is_kept n && touches ns written n) (dependent_nodes ns) =
      same_count (λ (r : Dependent). is_condition r && is_of new.round r) (λ n. is_kept n && touches ns written n) new.list.items (dependent_nodes ns) no_dependent (or_empty None) (visits.size ∙ size) (λ k less. passes k (subst (λ n. k < n) visits.size less)) in
      let told : renewals ns written ≡ count_by (λ n. is_kept n && touches ns written n) (dependent_nodes ns) = ap (count_by (touches ns written)) (sym (kept_dependents ns)) ∙ count_filtered is_kept (touches ns written) (dependent_nodes ns) in
      omega (arith, visits.counted, none, all, told)

  -- ---- values

  module _ (stores now : StoreMap) (write : IsWrite written stores now) (were : values_of old ≡ map (told ns stores) (kept_nodes ns))
      (tells : TellsOver holding ns now) where
    was_at : (k : ℕ) → k < length old.list.items → is_condition (was k) ≡ true → value_of (was k) ≡ told ns stores (dependent_node ns k)
    was_at = values_aligned is_condition is_kept value_of (told ns stores) no_dependent (or_empty None) old.list.items (dependent_nodes ns) size (λ k less. kept_at ns old.list.items placed kinds k less)
        (were ∙ ap (map (told ns stores)) (sym (kept_dependents ns)))

    value_at : (k : ℕ) → k < length old.list.items → is_condition (is k) ≡ true → value_of (is k) ≡ told ns now (dependent_node ns k)
    value_at k less condition =
        let n = dependent_node ns k in
        let rule : (was k).is_rule ≡ false = not-true (was k).is_rule (ap not (sym (rule_kept k less)) ∙ condition) in
        let kept : is_kept n ≡ true = sym (kept_at ns old.list.items placed kinds k less) ∙ ap not rule in
        elim (after k less) [
          | inl it ↦
              ap value_of it.1
              ∙ ap (λ b. record { place = (was k).place; holds = cond b (was k).holds (holding (was k).place) }) rule
              ∙ ap (λ (place : ℕ). record { place = place; holds = holding place }) (place_at ns old.list.items placed kinds k less)
              ∙ ap (λ (b : Bool). record { place = n.place; holds = b }) (tells k (inside k less) kept)
          | inr it ↦
              ap value_of it.1 ∙ was_at k less (ap not rule)
              ∙ ap (λ (b : Bool). record { place = n.place; holds = b })
              (sym (untouched ns written stores now n write (sym (touches_kept ns written k (sym (rule_at ns old.list.items placed kinds k less) ∙ rule)) ∙ sym (touched k less) ∙ it.0)))
        ]

    pub values_after : values_of new ≡ map (told ns now) (kept_nodes ns)
    values_after =
        map_aligned is_condition is_kept value_of (told ns now) no_dependent (or_empty None) new.list.items (dependent_nodes ns) (visits.size ∙ size)
        (λ k less. kept_at ns new.list.items places_after kinds_after k less) (λ k less. value_at k (subst (λ n. k < n) visits.size less))
        ∙ ap (map (told ns now)) (kept_dependents ns)
