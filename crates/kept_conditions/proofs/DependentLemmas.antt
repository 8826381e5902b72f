-- The dependents of a package: which of them are conditions and which rules, and their numbers, which are found by their places.
use Rattle.std.proofs.Common.{None, ◌≡◌, ℕ, ◌<◌, ◌==◌, ◌||◌, not, Bool, true, false, List, length, map, filter, get_or, refl, sym, ap, ◌∙◌, subst, inl, inr, zero, suc, ◌+◌, ◌≤◌, [], ◌∷◌, nat_cmp, Ok, Err, arith}
use Rattle.std.specs.List.{AllByRecursion}
use Rattle.std.proofs.lemmas.Bool.{cases_Bool, eqb-true, cond-false, cases_lt, cond-true}
use Rattle.std.proofs.lemmas.List.{get_or-map, length-map, get_or_default}
use Rattle.std.proofs.lemmas.List.Elements.{filter_passes, All-filter, All-contains_itself}
use Rattle.std.specs.Prelude.{Contains}
use Rattle.std.specs.List.Sorted.{IsBinarySearchResult}
use Rattle.std.proofs.lemmas.List.Sorted.{searched}
use Rattle.std.proofs.Math.Bool.{or-true}
use Rattle.ifr_opcodes.specs.declared.codes.TheConstants.{SUPPRESS_IF, GRAY_OUT_IF, NO_SUBMIT_IF, RULE}
use Rattle.ifr_opcodes.specs.Forest.{Node, flat}
use Rattle.ifr_opcodes.specs.Opcode.{number}
use Rattle.ifr_opcodes.specs.Reading.{tree_of}
use Rattle.ifr_expr.specs.Dependence.{dependence}
use Rattle.ifr_nodes.specs.code.Checked.{or_empty, node_in}
use Rattle.ifr_nodes.specs.NodeExpressions.{expression_tree}
use Rattle.ifr_nodes.specs.Nodes.{this_of, nodes_of}
use Rattle.ifr_nodes.specs.Rules.{is_rule, rules_among}
use Rattle.ifr_nodes.specs.Accepted.{IsAccepted}
use Rattle.ifr_nodes.proofs.PlaceLemmas.{nodes_within}
use Rattle.ifr_nodes.proofs.StructureLemmas.{rising}
use Rattle.ifr_nodes.proofs.ViewLemmas.{node_in_place}
use Rattle.hii_varstore.specs.Stores.{StoreMap}
use Rattle.guard_policy.specs.Conditions.{condition_ids, is_kept}
use Rattle.guard_policy.specs.code.KeptConditions.{TellsAll}
use Rattle.guard_policy.specs.World.{is_met_over, world_over}
use Rattle.guard_policy.proofs.RemovedLemmas.{Ascend, places_ascend}
use Rattle.kept_conditions.specs.code.Collection.{is_dependent, dependent_nodes, dependent_node, dependency_ids, is_touched, some_has_byte}
use Rattle.kept_conditions.specs.code.Dependents.{no_dependent, at_number, is_condition}
use Rattle.kept_conditions.specs.Touching.{touches}
use Rattle.kept_conditions.specs.declared.dependents.Dependent.{Dependent}
use Rattle.kept_conditions.proofs.FilterLemmas.{each_passing, filter_narrower}

-- ---- kinds of nodes

no_rule_code : (code : ℕ) → code == SUPPRESS_IF || code == GRAY_OUT_IF || code == NO_SUBMIT_IF ≡ true → code == RULE ≡ false
no_rule_code code e = elim (cases_Bool (code == SUPPRESS_IF)) [
  | inl first ↦ ap (λ c. c == RULE) (eqb-true code SUPPRESS_IF first)
  | inr other ↦ elim (cases_Bool (code == GRAY_OUT_IF)) [
    | inl second ↦ ap (λ c. c == RULE) (eqb-true code GRAY_OUT_IF second)
    | inr neither ↦ ap (λ c. c == RULE) (eqb-true code NO_SUBMIT_IF (sym (rw (other, neither) refl) ∙ e))
  ]
]

pub kept_no_rule : (n : Node) → is_kept n ≡ true → is_rule n ≡ false
kept_no_rule n e = no_rule_code (number n.op) e

pub kept_dependent : (n : Node) → is_kept n ≡ true → is_dependent n ≡ true
kept_dependent n e = ap (λ b. b || is_rule n) e

pub rule_dependent : (n : Node) → is_rule n ≡ true → is_dependent n ≡ true
rule_dependent n e = ap (λ b. is_kept n || b) e ∙ or-true (is_kept n)

pub dependent_kind : (n : Node) → is_dependent n ≡ true → not (is_rule n) ≡ is_kept n
dependent_kind n e = elim (cases_Bool (is_kept n)) [
  | inl kept ↦ ap not (kept_no_rule n kept) ∙ sym kept
  | inr other ↦ ap not (sym (ap (λ b. b || is_rule n) other) ∙ e) ∙ sym other
]

pub kept_dependents : (ns : List Node) → filter is_kept (dependent_nodes ns) ≡ filter is_kept ns
kept_dependents ns = filter_narrower is_kept is_dependent kept_dependent ns

pub rule_dependents : (ns : List Node) → filter is_rule (dependent_nodes ns) ≡ filter is_rule ns
rule_dependents ns = filter_narrower is_rule is_dependent rule_dependent ns

pub node_is_dependent : (ns : List Node) (k : ℕ) → k < length (dependent_nodes ns) → is_dependent (dependent_node ns k) ≡ true
node_is_dependent ns k less = filter_passes is_dependent ns k (or_empty None) less

-- a condition depends on what it always did
pub ids_kept : (ns : List Node) (n : Node) → is_rule n ≡ false → dependency_ids ns n ≡ condition_ids ns n
ids_kept ns n other = ap (λ this. dependence (rules_among ns) this (expression_tree n)) (cond-false (is_rule n) 0 (this_of n) other)

pub touches_kept : (ns : List Node) (bytes : ℕ → ℕ → Bool) (k : ℕ) → is_rule (dependent_node ns k) ≡ false → is_touched ns bytes k ≡ touches ns bytes (dependent_node ns k)
touches_kept ns bytes k other = ap (some_has_byte ns bytes) (ids_kept ns (dependent_node ns k) other)

-- What is told by place of the conditions among the dependents is whether they hold over some stores.
abbrev pub TellsOver : (ℕ → Bool) → List Node → StoreMap → Type 0
TellsOver holding ns stores = (k : ℕ) → k < length (dependent_nodes ns) → is_kept (dependent_node ns k) ≡ true → holding (dependent_node ns k).place ≡ is_met_over ns stores (dependent_node ns k)

pub told_kept : (holding : ℕ → Bool) (ns : List Node) (removed : List ℕ) (stores : StoreMap) → TellsAll holding (world_over ns removed stores) → TellsOver holding ns stores
told_kept holding ns removed stores all k less kept =
    each_passing (λ c. holding c.place ≡ is_met_over ns stores c) is_kept (dependent_nodes ns) (or_empty None) (subst (AllByRecursion (λ c. holding c.place ≡ is_met_over ns stores c)) (sym (kept_dependents ns)) all) k less kept

-- ---- dependents and their nodes

module _ (ns : List Node) (rs : List Dependent) (placed : map (λ (r : Dependent). r.place) rs ≡ map (λ (n : Node). n.place) (dependent_nodes ns)) (kinds : map (λ (r : Dependent). r.is_rule) rs ≡ map is_rule (dependent_nodes ns)) where
  pub many : length rs ≡ length (dependent_nodes ns)
  many = sym (length-map rs (λ (r : Dependent). r.place)) ∙ ap length placed ∙ length-map (dependent_nodes ns) (λ (n : Node). n.place)

  pub place_at : (k : ℕ) → k < length rs → (at_number rs k).place ≡ (dependent_node ns k).place
  place_at k less =
      sym (get_or-map (λ (r : Dependent). r.place) rs k no_dependent 0 less)
      ∙ ap (λ (l : List ℕ). get_or l k 0) placed ∙ get_or-map (λ (n : Node). n.place) (dependent_nodes ns) k (or_empty None) 0 (subst (λ n. k < n) many less)

  pub rule_at : (k : ℕ) → k < length rs → (at_number rs k).is_rule ≡ is_rule (dependent_node ns k)
  rule_at k less =
      sym (get_or-map (λ (r : Dependent). r.is_rule) rs k no_dependent false less)
      ∙ ap (λ (l : List Bool). get_or l k false) kinds ∙ get_or-map is_rule (dependent_nodes ns) k (or_empty None) false (subst (λ n. k < n) many less)

  pub kept_at : (k : ℕ) → k < length rs → is_condition (at_number rs k) ≡ is_kept (dependent_node ns k)
  kept_at k less = ap not (rule_at k less) ∙ dependent_kind (dependent_node ns k) (node_is_dependent ns k (subst (λ n. k < n) many less))

-- ---- numbers that ascend

above : (low : ℕ) (xs : List ℕ) (i : ℕ) → Ascend low xs → i < length xs → low + i ≤ get_or xs i 0
above low [] i r less = absurd (omega (arith, less))
above low (x ∷ xs) zero r less = let first : low ≤ x = r.0 in omega (arith, first)
above low (x ∷ xs) (suc i) r less =
    let first : low ≤ x = r.0 in
    let later = above (x + 1) xs i r.1 (omega (arith, less)) in
    omega (arith, first, later)

ordered : (low : ℕ) (xs : List ℕ) → Ascend low xs → (i j : ℕ) → i ≤ j → j < length xs → get_or xs i 0 ≤ get_or xs j 0
ordered low [] r i j le less = absurd (omega (arith, less))
ordered low (x ∷ xs) r zero zero le less = omega arith
ordered low (x ∷ xs) r zero (suc j) le less = let later = above (x + 1) xs j r.1 (omega (arith, less)) in omega (arith, later)
ordered low (x ∷ xs) r (suc i) zero le less = absurd (omega (arith, le))
ordered low (x ∷ xs) r (suc i) (suc j) le less = ordered (x + 1) xs r.1 i j (omega (arith, le)) (omega (arith, less))

-- ---- what passes a test is among what is filtered

pub among : {X : Type 0} (p : X → Bool) (xs : List X) (x d : X) → Contains xs x → p x ≡ true → (k : ℕ) × (k < length (filter p xs)) × (get_or (filter p xs) k d ≡ x)
among p [] x d (k, less, e) takes = absurd (omega (arith, less))
among p (y ∷ xs) x d (zero, less, e) takes =
    let here : filter p (y ∷ xs) ≡ y ∷ filter p xs = cond-true (p y) (y ∷ filter p xs) (filter p xs) (ap p e ∙ takes) in
    (0, subst (λ l. 0 < length l) (sym here) (omega arith), ap (λ l. get_or l 0 d) here ∙ e)
among p (y ∷ xs) x d (suc k, less, e) takes =
    let later = among p xs x d (k, omega (arith, less), e) takes in
    elim (cases_Bool (p y)) [
      | inl first ↦
          let here : filter p (y ∷ xs) ≡ y ∷ filter p xs = cond-true (p y) (y ∷ filter p xs) (filter p xs) first in
          (suc later.0, subst (λ l. suc later.0 < length l) (sym here) (omega (arith, later.1)), ap (λ l. get_or l (suc later.0) d) here ∙ later.2)
      | inr other ↦
          let here : filter p (y ∷ xs) ≡ filter p xs = cond-false (p y) (y ∷ filter p xs) (filter p xs) other in
          (later.0, subst (λ l. later.0 < length l) (sym here) later.1, ap (λ l. get_or l later.0 d) here ∙ later.2)
    ]

pub dependent_among : (ns : List Node) (k : ℕ) → k < length (dependent_nodes ns) → Contains ns (dependent_node ns k)
dependent_among ns k less = All-filter is_dependent (Contains ns) ns (All-contains_itself ns) k (or_empty None) less

-- ---- the dependents of a package

module _ (bytes : List ℕ) (accepted : IsAccepted bytes) where
  abbrev ns : List Node
  ns = nodes_of bytes

  abbrev places : List ℕ
  places = map (λ (n : Node). n.place) (dependent_nodes ns)

  rise : Ascend 4 places
  rise = places_ascend is_dependent 4 ns (rising ns 4 (4 + length (flat (tree_of bytes))) (nodes_within (tree_of bytes) 4 [] accepted.checked.spelled.are_nodes))

  place_of : (k : ℕ) → k < length (dependent_nodes ns) → get_or places k 0 ≡ (dependent_node ns k).place
  place_of k less = get_or-map (λ (n : Node). n.place) (dependent_nodes ns) k (or_empty None) 0 less

  long : length places ≡ length (dependent_nodes ns)
  long = length-map (dependent_nodes ns) (λ (n : Node). n.place)

  -- there is but one node at a place
  pub dependent_is : (m : Node) (k : ℕ) → Contains ns m → k < length (dependent_nodes ns) → (dependent_node ns k).place ≡ m.place → dependent_node ns k ≡ m
  dependent_is m k within less same =
      sym (node_in_place bytes (dependent_node ns k) accepted.checked.spelled (dependent_among ns k less))
      ∙ ap (node_in bytes) same ∙ node_in_place bytes m accepted.checked.spelled within

  pub place_among : (m : Node) → Contains ns m → is_dependent m ≡ true → Contains places m.place
  place_among m within depends_on =
      let it = among is_dependent ns m (or_empty None) within depends_on in
      (it.0, subst (λ n. it.0 < n) (sym long) it.1, get_or-map (λ (n : Node). n.place) (dependent_nodes ns) it.0 (or_empty None) m.place it.1 ∙ ap (λ (n : Node). n.place) it.2)

  -- a search finds the number of a dependent, which is no greater than its place
  pub found_number : (place number : ℕ) → IsBinarySearchResult (λ y. nat_cmp y place) places (Ok number)
      → (number < length (dependent_nodes ns)) × ((dependent_node ns number).place ≡ place) × (number ≤ place)
  found_number place number found =
      let at = searched places place (Ok number) found (ordered 4 places rise) in
      let inside : number < length (dependent_nodes ns) = subst (λ n. number < n) long at.0 in
      (inside, sym (place_of number inside) ∙ at.1, omega (arith, above 4 places number rise at.0, at.1))

  pub never_missing : (place at : ℕ) → IsBinarySearchResult (λ y. nat_cmp y place) places (Err at) → Contains places place → ⊥
  never_missing place at missing has =
      let around = searched places place (Err at) missing (ordered 4 places rise) in
      let here : get_or places has.0 0 ≡ place = get_or_default places has.0 0 place has.1 ∙ has.2 in
      elim (cases_lt has.0 at) [
        | inl before ↦ omega (arith, here, around.1 has.0 before)
        | inr from ↦ omega (arith, here, around.2 has.0 from has.1)
      ]

  -- a number is no greater than the place
  pub number_small : (k : ℕ) → k < length (dependent_nodes ns) → k ≤ (dependent_node ns k).place
  number_small k less = omega (arith, above 4 places k rise (subst (λ n. k < n) (sym long) less), place_of k less)
