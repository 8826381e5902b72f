-- What dependents name is added, name by name.
use Rattle.std.proofs.Common.{◌≡◌, ℕ, zero, suc, ◌+◌, ◌<◌, ◌≤◌, ◌==◌, ◌&&◌, ◌||◌, ◌++◌, nat_lt, take, Bool, true, false, Some, None, List, [], ◌∷◌, length, map, filter, reverse, refl, sym, ap, ◌∙◌, subst, inl, inr, arith}
use Rattle.std.specs.Prelude.{All, Contains}
use Rattle.std.specs.List.{AllByRecursion, flat_map, list_any}
use Rattle.std.proofs.lemmas.Bool.{cases_Bool, cases_eq, cases_lt, cond-true, eq-eqb, ne_eqb, le-ltb, lt-ltb}
use Rattle.std.proofs.lemmas.List.{map-append, take_more}
use Rattle.std.proofs.lemmas.List.Elements.{All-nil, All-push}
use Rattle.std.proofs.lemmas.List.Folds.{list_any-append}
use Rattle.std.proofs.lemmas.List.Sorted.{Contains-permutation, IsPermutation-reverse}
use Rattle.std.proofs.Math.Bool.{and-false, or-false}
use Rattle.ifr_opcodes.specs.declared.codes.TheConstants.{RULE_REF, THIS}
use Rattle.ifr_opcodes.specs.Forest.{Mark, Node}
use Rattle.ifr_opcodes.specs.Opcode.{number}
use Rattle.ifr_expr.specs.Dependence.{rule_ids, dependence}
use Rattle.ifr_expr.specs.Meaning.{names}
use Rattle.ifr_expr.specs.code.Rules.{AreOrdered}
use Rattle.ifr_expr.specs.Support.{ids_of}
use Rattle.ifr_expr.specs.Trees.{post}
use Rattle.ifr_expr.specs.code.Names.{names_of, names_among}
use Rattle.ifr_expr.specs.declared.names.Name.{Name}
use Rattle.ifr_expr.proofs.DependenceLemmas.{found_ids, no_ids}
use Rattle.ifr_expr.specs.declared.names.Name.TheVariants as name
use Rattle.ifr_nodes.specs.Accepted.{IsAccepted}
use Rattle.ifr_nodes.specs.code.Checked.{or_empty}
use Rattle.ifr_nodes.specs.NodeExpressions.{expression_tree}
use Rattle.ifr_nodes.specs.Nodes.{nodes_of, end_of}
use Rattle.ifr_nodes.specs.Rules.{is_rule, as_rule, rule_nodes, rules_among}
use Rattle.ifr_scopes.specs.code.Frames.{ids_by}
use Rattle.ifr_scopes.proofs.FormPlaceLemmas.{found}
use Rattle.ifr_scopes.proofs.FrameLemmas.{ids_of_names}
use Rattle.ifr_scopes.proofs.RuleLookupLemmas.{named_node, named_none, named_some, named_before}
use Rattle.ifr_nodes.proofs.RuleOrderLemmas.{rule_there}
use Rattle.ifr_scopes.proofs.RulesOrderedLemmas.{are_ordered}
use Rattle.hii_questions.specs.code.Entries.{entry_range}
use Rattle.hii_questions.specs.code.Ranges.{range_in}
use Rattle.kept_conditions.specs.code.Collection.{Adds, AreCollected, IsBefore, entry, IsRuleUse, finds, is_used, dependent_nodes, dependent_node, this_in, dependency_ids, is_touched, some_has_byte}
use Rattle.kept_conditions.specs.code.Index.{AreSmall, HaveNumbers, is_dependency, depends_on}
use Rattle.kept_conditions.specs.Touching.{has_byte, field_with}
use Rattle.kept_conditions.specs.declared.collection.Collected.{Collected}
use Rattle.kept_conditions.specs.declared.index.RuleUse.{RuleUse}
use Rattle.kept_conditions.specs.declared.dependents.Dependent.{Dependent}
use Rattle.kept_conditions.specs.declared.index.Dependency.{Dependency}
use Rattle.kept_conditions.proofs.DependentLemmas.{among, place_among, dependent_is, dependent_among, rule_dependent}

or_assoc : (a b c : Bool) → (a || b) || c ≡ a || (b || c)
or_assoc true b c = refl
or_assoc false b c = refl

-- ---- one after the other

adds_none : (ns : List Node) (number : ℕ) (ids : List ℕ) (it : Collected) → ((bytes : ℕ → ℕ → Bool) → some_has_byte ns bytes ids ≡ false) → Adds ns number ids it it
adds_none ns number ids it none = record {
  list = refl;
  sound = λ sound. sound;
  found = λ bytes k.
      sym (or-false (finds ns bytes it.dependencies.items it.rule_uses.items k)) ∙ ap (λ b. finds ns bytes it.dependencies.items it.rule_uses.items k || b) (sym (ap (λ b. number == k && b) (none bytes) ∙ and-false (number == k)));
}

pub adds_nothing : (ns : List Node) (number : ℕ) (it : Collected) → Adds ns number [] it it
adds_nothing ns number it = adds_none ns number [] it (λ bytes. refl)

pub adds_then : (ns : List Node) (number : ℕ) (xs ys : List ℕ) (a b c : Collected) → Adds ns number xs a b → Adds ns number ys b c → Adds ns number (xs ++ ys) a c
adds_then ns number xs ys a b c first second = record {
  list = second.list ∙ first.list;
  sound = λ sound. second.sound (first.sound sound);
  found = λ bytes k.
      second.found bytes k ∙ ap (λ x. x || (number == k && some_has_byte ns bytes ys)) (first.found bytes k)
      ∙ joined (finds ns bytes a.dependencies.items a.rule_uses.items k) (number == k) (some_has_byte ns bytes xs) (some_has_byte ns bytes ys)
      ∙ ap (λ x. finds ns bytes a.dependencies.items a.rule_uses.items k || (number == k && x)) (sym (list_any-append (λ id. has_byte bytes (field_with ns id)) xs ys));
}
  where
    joined : (f n x y : Bool) → (f || (n && x)) || (n && y) ≡ f || (n && (x || y))
    joined true n x y = refl
    joined false true x y = refl
    joined false false x y = refl

-- ---- a question

module _ (ns : List Node) (number id : ℕ) (old new : Collected) (r : Dependency) (inside : number < length (dependent_nodes ns)) (is : field_with ns id ≡ Some (range_in (entry_range r.field))) (mine : r.dependent ≡ number) (small : r.field.offset < 65536)
    (list : new.list ≡ old.list) (dependencies : new.dependencies.items ≡ old.dependencies.items ++ r ∷ []) (rule_uses : new.rule_uses ≡ old.rule_uses) where
  depends_found : (bytes : ℕ → ℕ → Bool) (k : ℕ) → depends_on bytes new.dependencies.items k ≡ (depends_on bytes old.dependencies.items k || (number == k && some_has_byte ns bytes (id ∷ [])))
  depends_found bytes k =
      ap (λ rs. depends_on bytes rs k) dependencies ∙ list_any-append (is_dependency bytes k) old.dependencies.items (r ∷ [])
      ∙ ap (λ b. depends_on bytes old.dependencies.items k || b)
      (or-false (is_dependency bytes k r) ∙ ap (λ n. n == k && has_byte bytes (Some (range_in (entry_range r.field)))) mine
      ∙ ap (λ b. number == k && b) (ap (has_byte bytes) (sym is) ∙ sym (or-false (has_byte bytes (field_with ns id)))))

  pub adds_question : Adds ns number (id ∷ []) old new
  adds_question = record {
    list = list;
    sound = λ sound. record {
      numbers = subst (HaveNumbers (length (dependent_nodes ns))) (sym dependencies) (All-push (λ (x : Dependency). x.dependent < length (dependent_nodes ns)) old.dependencies.items r sound.numbers (subst (λ n. n < length (dependent_nodes ns)) (sym mine) inside));
      small = subst AreSmall (sym dependencies) (All-push (λ (x : Dependency). x.field.offset < 65536) old.dependencies.items r sound.small small);
      are_uses = subst (λ v. All (IsRuleUse ns) v.items) (sym rule_uses) sound.are_uses;
    };
    found = λ bytes k.
        ap (λ v. finds ns bytes new.dependencies.items v.items k) rule_uses ∙ ap (λ b. b || list_any (is_used (is_touched ns bytes) k) old.rule_uses.items) (depends_found bytes k)
        ∙ swapped (depends_on bytes old.dependencies.items k) (number == k && some_has_byte ns bytes (id ∷ [])) (list_any (is_used (is_touched ns bytes) k) old.rule_uses.items);
  }
    where
      swapped : (a b c : Bool) → (a || b) || c ≡ (a || c) || b
      swapped true b c = refl
      swapped false true true = refl
      swapped false true false = refl
      swapped false false true = refl
      swapped false false false = refl

-- ---- a rule

module _ (bytes : List ℕ) (accepted : IsAccepted bytes) where
  abbrev ns : List Node
  ns = nodes_of bytes

  pub no_rule : (number id place : ℕ) (it : Collected) → None ≡ named_node (rule_nodes ns) id place → Adds ns number (rule_ids (rules_among ns) id place) it it
  no_rule number id place it none =
      adds_none ns number (rule_ids (rules_among ns) id place) it (λ written. ap (some_has_byte ns written) (no_ids (rules_among ns) id place (named_none (rule_nodes ns) id place (sym none))))

  pub named_among : (m : Node) (id place : ℕ) → Some m ≡ named_node (rule_nodes ns) id place → Contains ns m × (is_rule m ≡ true)
  named_among m id place named = rule_there ns m (found (λ n. names id place (as_rule n)) (rule_nodes ns) m (sym named)).0

  pub rule_placed : (m : Node) (id place : ℕ) → Some m ≡ named_node (rule_nodes ns) id place → Contains (map (λ (n : Node). n.place) (dependent_nodes ns)) m.place
  rule_placed m id place named = let it = named_among m id place named in place_among bytes accepted m it.0 (rule_dependent m it.1)

  module _ (number id place : ℕ) (m : Node) (named : Some m ≡ named_node (rule_nodes ns) id place) (l : RuleUse) (inside : number < length (dependent_nodes ns)) (mine : l.dependent ≡ number)
      (within : l.rule < length (dependent_nodes ns)) (there : (dependent_node ns l.rule).place ≡ m.place)
      (before : is_rule (dependent_node ns number) ≡ true → place < end_of (dependent_node ns number)) where
    is_m : dependent_node ns l.rule ≡ m
    is_m = let it = named_among m id place named in dependent_is bytes accepted m l.rule it.0 within there

    rule_m : is_rule m ≡ true
    rule_m = let it = named_among m id place named in it.1

    its_ids : rule_ids (rules_among ns) id place ≡ dependency_ids ns m
    its_ids =
        found_ids (rules_among ns) id place (as_rule m) (are_ordered bytes accepted.checked) (named_some (rule_nodes ns) id place m (sym named))
        ∙ ap (λ this. dependence (rules_among ns) this (expression_tree m)) (sym (cond-true (is_rule m) 0 _ rule_m))

    touched : (written : ℕ → ℕ → Bool) → is_touched ns written l.rule ≡ some_has_byte ns written (rule_ids (rules_among ns) id place)
    touched written = ap (λ n. some_has_byte ns written (dependency_ids ns n)) is_m ∙ ap (some_has_byte ns written) (sym its_ids)

    is_rule_use : IsRuleUse ns l
    is_rule_use = record {
      rule = within;
      dependent = subst (λ n. n < length (dependent_nodes ns)) (sym mine) inside;
      named = ap is_rule is_m ∙ rule_m;
      before = λ rule.
          let ends : end_of m ≤ place = named_before (rule_nodes ns) id place m (sym named) in
          let less : place < end_of (dependent_node ns number) = before (sym (ap (λ n. is_rule (dependent_node ns n)) mine) ∙ rule) in
          omega (arith, ends, less, ap end_of is_m, ap (λ n. end_of (dependent_node ns n)) mine);
    }

    module _ (old new : Collected) (list : new.list ≡ old.list) (dependencies : new.dependencies ≡ old.dependencies) (rule_uses : new.rule_uses.items ≡ old.rule_uses.items ++ l ∷ []) where
      pub adds_rule : Adds ns number (rule_ids (rules_among ns) id place) old new
      adds_rule = record {
        list = list;
        sound = λ sound. record {
          numbers = subst (λ v. HaveNumbers (length (dependent_nodes ns)) v.items) (sym dependencies) sound.numbers;
          small = subst (λ v. AreSmall v.items) (sym dependencies) sound.small;
          are_uses = subst (All (IsRuleUse ns)) (sym rule_uses) (All-push (IsRuleUse ns) old.rule_uses.items l sound.are_uses is_rule_use);
        };
        found = λ written k.
            ap (λ v. finds ns written v.items new.rule_uses.items k) dependencies
            ∙ ap (λ ls. depends_on written old.dependencies.items k || list_any (is_used (is_touched ns written) k) ls) rule_uses
            ∙ ap (λ b. depends_on written old.dependencies.items k || b)
            (list_any-append (is_used (is_touched ns written) k) old.rule_uses.items (l ∷ [])
            ∙ ap (λ b. list_any (is_used (is_touched ns written) k) old.rule_uses.items || b)
            (or-false (is_used (is_touched ns written) k l) ∙ ap (λ n. n == k && is_touched ns written l.rule) mine ∙ ap (λ b. number == k && b) (touched written)))
            ∙ sym (or_assoc (depends_on written old.dependencies.items k) (list_any (is_used (is_touched ns written) k) old.rule_uses.items) (number == k && some_has_byte ns written (rule_ids (rules_among ns) id place)));
      }

-- ---- all names

before_one : (ends : ℕ) (op : Mark) → op.place < ends → AllByRecursion (IsBefore ends) (names_of op)
before_one ends op less = elim (cases_Bool (number op.op == RULE_REF)) [
  | inl is ↦ rw is (less, tt)
  | inr no_rule ↦ elim (cases_Bool (number op.op == THIS)) [
    | inl is ↦ rw (no_rule, is) (tt, tt)
    | inr other ↦ rw (no_rule, other) (questions ends (ids_of op.op))
  ]
]
  where
    questions : (ends : ℕ) (ids : List ℕ) → AllByRecursion (IsBefore ends) (map name.Question ids)
    questions ends [] = tt
    questions ends (id ∷ ids) = (tt, questions ends ids)

before_joined : (ends : ℕ) (xs ys : List Name) → AllByRecursion (IsBefore ends) xs → AllByRecursion (IsBefore ends) ys → AllByRecursion (IsBefore ends) (xs ++ ys)
before_joined ends [] ys u v = v
before_joined ends (x ∷ xs) ys u v = (u.0, before_joined ends xs ys u.1 v)

pub names_before : (ends : ℕ) (ops : List Mark) → AllByRecursion (λ (op : Mark). op.place < ends) ops → AllByRecursion (IsBefore ends) (names_among ops)
names_before ends [] below = tt
names_before ends (op ∷ ops) below = before_joined ends (names_of op) (names_among ops) (before_one ends op below.0) (names_before ends ops below.1)

ordered_at : (ns : List Node) (n : Node) → AreOrdered (map as_rule ns) → Contains ns n → AllByRecursion (λ (op : Mark). op.place < end_of n) (post (expression_tree n))
ordered_at [] n o (k, less, e) = absurd (omega (arith, less))
ordered_at (m ∷ ns) n o (zero, less, e) = subst (λ (x : Node). AllByRecursion (λ (op : Mark). op.place < end_of x) (post (expression_tree x))) e o.0
ordered_at (m ∷ ns) n o (suc k, less, e) = ordered_at ns n o.1.1 (k, omega (arith, less), e)

-- what a rule names stands before its end
pub rule_names_before : (bytes : List ℕ) → IsAccepted bytes → (k : ℕ) → k < length (dependent_nodes (nodes_of bytes)) → is_rule (dependent_node (nodes_of bytes) k) ≡ true
    → AllByRecursion (IsBefore (end_of (dependent_node (nodes_of bytes) k))) (names_among (post (expression_tree (dependent_node (nodes_of bytes) k))))
rule_names_before bytes accepted k less rule =
    let ns = nodes_of bytes in
    let n = dependent_node ns k in
    let it = among is_rule ns n n (dependent_among ns k less) rule in
    let has : Contains (rule_nodes ns) n = Contains-permutation (filter is_rule ns) (reverse (filter is_rule ns)) n (IsPermutation-reverse (filter is_rule ns)) (it.0, it.1, it.2) in
    names_before (end_of n) (post (expression_tree n)) (ordered_at (rule_nodes ns) n (are_ordered bytes accepted.checked) has)

pub ids_among : (ns : List Node) (n : Node) (this : ℕ) → this ≡ this_in n → flat_map (ids_by (rules_among ns) this) (names_among (post (expression_tree n))) ≡ dependency_ids ns n
ids_among ns n this is = ids_of_names (rules_among ns) this (post (expression_tree n)) ∙ ap (λ k. dependence (rules_among ns) k (expression_tree n)) is

-- ---- one dependent more

-- those up to one, and that one
pub upto : (touched : ℕ → Bool) (count k : ℕ) → ((nat_lt k count && touched k) || (count == k && touched count)) ≡ (nat_lt k (count + 1) && touched k)
upto touched count k = elim (cases_eq count k) [
  | inl same ↦
      let none : nat_lt k count ≡ false = le-ltb k count (omega (arith, same)) in
      let less : nat_lt k (count + 1) ≡ true = lt-ltb k (count + 1) (omega (arith, same)) in
      ap (λ b. (b && touched k) || (count == k && touched count)) none ∙ ap (λ b. b && touched count) (eq-eqb count k same) ∙ ap touched same ∙ sym (ap (λ b. b && touched k) less)
  | inr other ↦ elim (cases_lt k count) [
    | inl before ↦
        ap (λ b. (nat_lt k count && touched k) || (b && touched count)) (ne_eqb count k other) ∙ or-false (nat_lt k count && touched k)
        ∙ ap (λ b. b && touched k) (lt-ltb k count before ∙ sym (lt-ltb k (count + 1) (omega (arith, before))))
    | inr from ↦
        let more : count + 1 ≤ k = grind (arith) in
        ap (λ b. (nat_lt k count && touched k) || (b && touched count)) (ne_eqb count k other) ∙ or-false (nat_lt k count && touched k)
        ∙ ap (λ b. b && touched k) (le-ltb k count from ∙ sym (le-ltb k (count + 1) more))
  ]
]

-- the first dependents, and the next
pub entry_more : (holding : ℕ → Bool) (ns : List Node) (count : ℕ) → count < length (dependent_nodes ns) → map (entry holding) (take (count + 1) (dependent_nodes ns)) ≡ map (entry holding) (take count (dependent_nodes ns)) ++ entry holding (dependent_node ns count) ∷ []
entry_more holding ns count less = ap (map (entry holding)) (take_more (dependent_nodes ns) count (or_empty None) less) ∙ map-append (entry holding) (take count (dependent_nodes ns)) (dependent_node ns count ∷ [])

pub entry_is : (holding : ℕ → Bool) (n : Node) (place : ℕ) (rule holds : Bool) → place ≡ n.place → rule ≡ is_rule n → holds ≡ holding place
    → ◌≡◌ {A = Dependent} record { place = place; round = 0; is_rule = rule; holds = holds } (entry holding n)
entry_is holding n place rule holds e f h =
    ap (λ (b : Bool). record { place = place; round = 0; is_rule = rule; holds = b }) h
    ∙ ap (λ (p : ℕ). record { place = p; round = 0; is_rule = rule; holds = holding p }) e
    ∙ ap (λ (b : Bool). record { place = n.place; round = 0; is_rule = b; holds = holding n.place }) f

pub none_collected : (holding : ℕ → Bool) (ns : List Node) (it : Collected) → it.list.items ≡ [] → it.dependencies.items ≡ [] → it.rule_uses.items ≡ [] → AreCollected ns holding 0 it
none_collected holding ns it list dependencies rule_uses = record {
  list = list;
  sound = record {
    numbers = subst (HaveNumbers (length (dependent_nodes ns))) (sym dependencies) (All-nil (λ (r : Dependency). r.dependent < length (dependent_nodes ns)));
    small = subst AreSmall (sym dependencies) (All-nil (λ (r : Dependency). r.field.offset < 65536));
    are_uses = subst (All (IsRuleUse ns)) (sym rule_uses) (All-nil (IsRuleUse ns));
  };
  found = λ bytes k. ap (λ rs. finds ns bytes rs it.rule_uses.items k) dependencies ∙ ap (λ ls. list_any (is_used (is_touched ns bytes) k) ls) rule_uses ∙ sym (ap (λ b. b && is_touched ns bytes k) (le-ltb k 0 (omega arith)));
}
