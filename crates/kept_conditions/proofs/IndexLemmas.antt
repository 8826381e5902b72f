-- What is collected of a package is an index of its dependents.
use Rattle.std.proofs.Common.{None, ◌≡◌, ℕ, ◌+◌, ◌<◌, ◌≤◌, ◌&&◌, ◌||◌, Bool, List, [], ◌∷◌, length, map, refl, sym, ap, ◌∙◌, subst, arith}
use Rattle.std.specs.List.{list_any}
use Rattle.std.specs.Vec.{vec_capacity}
use Rattle.std.proofs.lemmas.Bool.{lt-ltb}
use Rattle.std.proofs.lemmas.List.{get_or-map, length-map, take_all}
use Rattle.ifr_opcodes.specs.Forest.{Node, flat}
use Rattle.ifr_opcodes.specs.Reading.{tree_of}
use Rattle.ifr_nodes.specs.Accepted.{IsAccepted}
use Rattle.ifr_nodes.specs.code.Checked.{or_empty}
use Rattle.ifr_nodes.specs.Nodes.{nodes_of}
use Rattle.ifr_nodes.specs.Rules.{is_rule}
use Rattle.ifr_nodes.proofs.PlaceLemmas.{nodes_within}
use Rattle.ifr_nodes.proofs.StructureLemmas.{rising}
use Rattle.hii_bytes.specs.code.FirstFaults.{Rise}
use Rattle.hii_varstore.specs.Stores.{StoreMap}
use Rattle.guard_policy.proofs.RemovedLemmas.{Ascend, places_ascend, from_zero}
use Rattle.guard_policy.specs.Conditions.{is_kept}
use Rattle.kept_conditions.specs.Kept.{kept_nodes, told}
use Rattle.kept_conditions.specs.code.Collection.{AreCollected, entry, IsRuleUse, finds, is_used, is_dependent, dependent_nodes, dependent_node, is_touched}
use Rattle.kept_conditions.specs.code.Cache.{IsIndex, value_of, values_of}
use Rattle.kept_conditions.specs.code.Index.{HasSame, RulesRise, AreSorted, AreSummaries, AreGaps, is_dependency, depends_on}
use Rattle.kept_conditions.specs.code.Dependents.{no_dependent, at_number, is_condition, rules_in}
use Rattle.kept_conditions.specs.declared.collection.Collected.{Collected}
use Rattle.kept_conditions.specs.declared.index.Index.{Index}
use Rattle.kept_conditions.specs.declared.dependents.Dependent.{Dependent}
use Rattle.kept_conditions.specs.declared.dependents.Dependents.{Dependents}
use Rattle.kept_conditions.specs.declared.index.Dependency.{Dependency}
use Rattle.kept_conditions.proofs.FilterLemmas.{map_aligned}
use Rattle.kept_conditions.proofs.DependentLemmas.{TellsOver, kept_at, kept_dependents}
use Rattle.kept_conditions.proofs.SortLemmas.{all_same}

-- the index of what was collected
pub record IsOver (collected : Collected) (dependents : Dependents) (index : Index) : Type 0 where
  pub list : dependents.list.items ≡ collected.list.items
  pub round : dependents.round ≡ 0
  pub idle : dependents.pending.items ≡ []
  pub room : rules_in collected.list.items ≤ vec_capacity dependents.pending
  pub sorted : AreSorted index.dependencies.items
  pub all : length index.summaries.items ≡ length index.dependencies.items
  pub summed : AreSummaries index.dependencies.items index.summaries.items
  pub gaps : AreGaps index.dependencies.items index.gaps
  pub rise : RulesRise index.rule_uses.items
  pub dependencies : HasSame collected.dependencies.items index.dependencies.items
  pub rule_uses : HasSame collected.rule_uses.items index.rule_uses.items

module _ (bytes : List ℕ) (accepted : IsAccepted bytes) (holding : ℕ → Bool) (collected : Collected) (it : AreCollected (nodes_of bytes) holding (length (dependent_nodes (nodes_of bytes))) collected)
    (dependents : Dependents) (index : Index) (over : IsOver collected dependents index) where
  abbrev ns : List Node
  ns = nodes_of bytes

  whole : dependents.list.items ≡ map (entry holding) (dependent_nodes ns)
  whole = over.list ∙ it.list ∙ ap (map (entry holding)) (take_all (length (dependent_nodes ns)) (dependent_nodes ns) (omega arith))

  map_entry : {X : Type 0} (f : Dependent → X) (g : Node → X) → ((n : Node) → f (entry holding n) ≡ g n) → (xs : List Node) → map f (map (entry holding) xs) ≡ map g xs
  map_entry f g same [] = refl
  map_entry f g same (x ∷ xs) = ap (λ y. y ∷ map f (map (entry holding) xs)) (same x) ∙ ap (λ l. g x ∷ l) (map_entry f g same xs)

  placed : map (λ (r : Dependent). r.place) dependents.list.items ≡ map (λ (n : Node). n.place) (dependent_nodes ns)
  placed = ap (map (λ (r : Dependent). r.place)) whole ∙ map_entry (λ r. r.place) (λ n. n.place) (λ n. refl) (dependent_nodes ns)

  kinds : map (λ (r : Dependent). r.is_rule) dependents.list.items ≡ map is_rule (dependent_nodes ns)
  kinds = ap (map (λ (r : Dependent). r.is_rule)) whole ∙ map_entry (λ r. r.is_rule) is_rule (λ n. refl) (dependent_nodes ns)

  long : length dependents.list.items ≡ length (dependent_nodes ns)
  long = ap (λ (l : List Dependent). length l) whole ∙ length-map (dependent_nodes ns) (entry holding)

  at : (k : ℕ) → k < length (dependent_nodes ns) → at_number dependents.list.items k ≡ entry holding (dependent_node ns k)
  at k less = ap (λ l. at_number l k) whole ∙ get_or-map (entry holding) (dependent_nodes ns) k (or_empty None) no_dependent less

  found : (written : ℕ → ℕ → Bool) (k : ℕ) → k < length (dependent_nodes ns) → finds ns written index.dependencies.items index.rule_uses.items k ≡ is_touched ns written k
  found written k less =
      ap (λ b. b || list_any (is_used (is_touched ns written) k) index.rule_uses.items) (over.dependencies.passes (is_dependency written k))
      ∙ ap (λ b. depends_on written collected.dependencies.items k || b) (over.rule_uses.passes (is_used (is_touched ns written) k))
      ∙ it.found written k ∙ ap (λ b. b && is_touched ns written k) (lt-ltb k (length (dependent_nodes ns)) less)

  pub is_index : IsIndex bytes dependents index
  is_index = record {
    placed = placed;
    kinds = kinds;
    rise = subst (Ascend 0) (sym placed)
        (from_zero 4 _ (places_ascend is_dependent 4 ns (rising ns 4 (4 + length (flat (tree_of bytes))) (nodes_within (tree_of bytes) 4 [] accepted.checked.spelled.are_nodes))));
    rounds = λ k less. let none : (at_number dependents.list.items k).round ≡ 0 = ap (λ (r : Dependent). r.round) (at k (subst (λ n. k < n) long less)) in omega (arith, none);
    idle = over.idle;
    room = subst (λ l. rules_in l ≤ vec_capacity dependents.pending) (sym over.list) over.room;
    sorted = over.sorted;
    all = over.all;
    summed = over.summed;
    gaps = over.gaps;
    numbers = all_same (λ (r : Dependency). r.dependent < length (dependent_nodes ns)) collected.dependencies.items index.dependencies.items over.dependencies it.sound.numbers;
    small = all_same (λ (r : Dependency). r.field.offset < 65536) collected.dependencies.items index.dependencies.items over.dependencies it.sound.small;
    by_rule = over.rise;
    are_uses = all_same (IsRuleUse ns) collected.rule_uses.items index.rule_uses.items over.rule_uses it.sound.are_uses;
    found = found;
  }

  pub values_read : (stores : StoreMap) → TellsOver holding ns stores → values_of dependents ≡ map (told ns stores) (kept_nodes ns)
  values_read stores tells =
      map_aligned is_condition is_kept value_of (told ns stores) no_dependent (or_empty None) dependents.list.items (dependent_nodes ns) long
      (λ k less. kept_at ns dependents.list.items placed kinds k less)
      (λ k less condition.
      let inside : k < length (dependent_nodes ns) = subst (λ n. k < n) long less in
      let n = dependent_node ns k in
      ap value_of (at k inside) ∙ ap (λ (b : Bool). record { place = n.place; holds = b }) (tells k inside (sym (kept_at ns dependents.list.items placed kinds k less) ∙ condition)))
      ∙ ap (map (told ns stores)) (kept_dependents ns)

-- Nothing of an index rests on positions.
pub with_positions : (ifr : List ℕ) (a b : Dependents) (index : Index) → b.list ≡ a.list → b.round ≡ a.round → b.pending ≡ a.pending → IsIndex ifr a index → IsIndex ifr b index
with_positions ifr a b index list round pending it = record {
  placed = ap (λ v. map (λ (r : Dependent). r.place) v.items) list ∙ it.placed;
  kinds = ap (λ v. map (λ (r : Dependent). r.is_rule) v.items) list ∙ it.kinds;
  rise = subst (λ v. Rise (λ (x : ℕ). x) 0 (map (λ (r : Dependent). r.place) v.items)) (sym list) it.rise;
  rounds = subst (λ v. (k : ℕ) → k < length v.items → (at_number v.items k).round ≤ b.round) (sym list)
      (subst (λ n. (k : ℕ) → k < length a.list.items → (at_number a.list.items k).round ≤ n) (sym round) it.rounds);
  idle = ap (λ v. v.items) pending ∙ it.idle;
  room = subst (λ v. rules_in v.items ≤ vec_capacity b.pending) (sym list) (subst (λ v. rules_in a.list.items ≤ vec_capacity v) (sym pending) it.room);
  sorted = it.sorted;
  all = it.all;
  summed = it.summed;
  gaps = it.gaps;
  numbers = it.numbers;
  small = it.small;
  by_rule = it.by_rule;
  are_uses = it.are_uses;
  found = it.found;
}
