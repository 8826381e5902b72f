-- Dependents that are visited one after the other.
use Rattle.std.proofs.Common.{◌≡◌, ℕ, ◌+◌, ◌<◌, ◌==◌, ◌&&◌, ◌||◌, Bool, true, false, cond, List, [], ◌∷◌, ◌++◌, length, get_or, take, count_by, refl, sym, ap, ◌∙◌, subst, inl, inr, arith}
use Rattle.std.specs.Prelude.{All}
use Rattle.std.specs.List.{list_any}
use Rattle.std.specs.Vec.{vec_capacity}
use Rattle.std.proofs.lemmas.Bool.{cases_Bool, cases_eq, cond-true, cond-false, false≢true, and_parts, eqb-true, eq-eqb, ne_eqb}
use Rattle.std.proofs.lemmas.List.{length-append, take_more}
use Rattle.std.proofs.lemmas.List.Elements.{All-tail}
use Rattle.std.proofs.lemmas.List.Folds.{list_any-append, list_any_at}
use Rattle.std.proofs.Math.Bool.{or-false, or-true}
use Rattle.kept_conditions.specs.code.Index.{uses}
use Rattle.kept_conditions.specs.code.Dependents.{at_number, is_condition, is_of, visited, visited_rules, rules_in, is_pending, was_visited, HasRoom, turns, VisitsOne, VisitsSome, Reaches, AreRuleUses, Follow, KeepsFollowing}
use Rattle.kept_conditions.specs.declared.index.RuleUse.{RuleUse}
use Rattle.kept_conditions.specs.declared.dependents.Dependent.{Dependent}
use Rattle.kept_conditions.specs.declared.dependents.Dependents.{Dependents}
use Rattle.kept_conditions.proofs.FilterLemmas.{one}
use Rattle.kept_conditions.proofs.VisitsOneLemmas.{visited_twice, visited_or_not, visited_is_rule, reaches_it, one_is_some, visit_follows}

used_sound : (rule_uses : List RuleUse) (these : ℕ → Bool) (rule k : ℕ) → All (λ (l : RuleUse). these l.rule ≡ true → these l.dependent ≡ true) rule_uses → these rule ≡ true → uses rule_uses rule k ≡ true → these k ≡ true
used_sound [] these rule k closed is e = absurd (false≢true e)
used_sound (l ∷ rule_uses) these rule k closed is e = elim (cases_Bool (l.rule == rule && l.dependent == k)) [
  | inl here ↦
      let both = and_parts (l.rule == rule) (l.dependent == k) here in
      let its : these l.dependent ≡ true = closed 0 l (omega arith) (ap these (eqb-true l.rule rule both.0) ∙ is) in
      sym (ap these (eqb-true l.dependent k both.1)) ∙ its
  | inr other ↦ used_sound rule_uses these rule k (All-tail (λ (x : RuleUse). these x.rule ≡ true → these x.dependent ≡ true) l rule_uses closed) is (sym (ap (λ x. x || uses rule_uses rule k) other) ∙ e)
]

-- an element more
pub any_more : {X : Type 0} (p : X → Bool) (xs : List X) (i : ℕ) (d : X) → i < length xs → list_any p (take (i + 1) xs) ≡ (p (get_or xs i d) || list_any p (take i xs))
any_more p xs i d less =
    ap (list_any p) (take_more xs i d less) ∙ list_any-append p (take i xs) (get_or xs i d ∷ []) ∙ turned (p (get_or xs i d)) (list_any p (take i xs))
  where
    turned : (x y : Bool) → (y || (x || false)) ≡ (x || y)
    turned true true = refl
    turned true false = refl
    turned false true = refl
    turned false false = refl

-- ---- at the start

pub visits_none : (holding : ℕ → Bool) (a : Dependents) → VisitsSome holding a a 0
visits_none holding a = record {
  round = refl;
  size = refl;
  each = λ k less. visited_or_not holding a.round (at_number a.list.items k) (was_visited a k) refl;
  more = λ k less e. e;
  counted = omega arith;
  room = λ room. room;
  left = omega arith;
}

-- ---- one after the other

module _ (holding : ℕ → Bool) (a b : Dependents) (m : ℕ) (first : VisitsSome holding a b m) where
  -- a dependent that was visited is one that is visited
  pub is_rule_kept : (k : ℕ) → k < length a.list.items → (at_number b.list.items k).is_rule ≡ (at_number a.list.items k).is_rule
  is_rule_kept k less = ap (λ (r : Dependent). r.is_rule) (first.each k less) ∙ either (was_visited b k)
    where
      either : (x : Bool) → (cond x (visited holding a.round (at_number a.list.items k)) (at_number a.list.items k)).is_rule ≡ (at_number a.list.items k).is_rule
      either true = visited_is_rule holding a.round (at_number a.list.items k)
      either false = refl

  pub rule_uses_kept : (rule_uses : List RuleUse) → AreRuleUses a.list.items rule_uses → AreRuleUses b.list.items rule_uses
  rule_uses_kept rule_uses are_uses k d less =
      let l = get_or rule_uses k d in
      let rule_use = are_uses k d less in
      (omega (arith, rule_use.0, first.size), is_rule_kept l.rule rule_use.0 ∙ rule_use.1, omega (arith, rule_use.2, first.size))

  module _ (c : Dependents) (n : ℕ) (second : VisitsSome holding b c n) where
    each_then : (k : ℕ) → k < length a.list.items → at_number c.list.items k ≡ cond (was_visited c k) (visited holding a.round (at_number a.list.items k)) (at_number a.list.items k)
    each_then k less =
        let inside : k < length b.list.items = omega (arith, less, first.size) in
        let x = at_number a.list.items k in
        let y = at_number b.list.items k in
        let x' = visited holding a.round x in
        elim (cases_Bool (was_visited c k)) [
          | inl now ↦
              second.each k inside ∙ cond-true (was_visited c k) (visited holding b.round y) y now
              ∙ ap (λ r. visited holding r y) first.round ∙ ap (visited holding a.round) (first.each k less) ∙ either (was_visited b k) x
              ∙ sym (cond-true (was_visited c k) x' x now)
          | inr never ↦
              let before : was_visited b k ≡ false = elim (cases_Bool (was_visited b k)) [
                | inl done ↦ absurd (false≢true (sym never ∙ second.more k inside done))
                | inr none ↦ none
              ] in
              second.each k inside ∙ cond-false (was_visited c k) (visited holding b.round y) y never
              ∙ first.each k less ∙ cond-false (was_visited b k) x' x before
              ∙ sym (cond-false (was_visited c k) x' x never)
        ]
      where
        either : (b : Bool) (x : Dependent) → visited holding a.round (cond b (visited holding a.round x) x) ≡ visited holding a.round x
        either true x = visited_twice holding a.round x
        either false x = refl

    pub visits_then : VisitsSome holding a c (m + n)
    visits_then = record {
      round = second.round ∙ first.round;
      size = second.size ∙ first.size;
      each = each_then;
      more = λ k less e. second.more k (omega (arith, less, first.size)) (first.more k less e);
      counted = omega (arith, first.counted, second.counted);
      room = λ room. second.room (first.room room);
      left = omega (arith, first.left, second.left);
    }

    pub follows_then : KeepsFollowing a b → KeepsFollowing b c → KeepsFollowing a c
    follows_then f g but rule_uses are_uses follow = g but rule_uses (rule_uses_kept rule_uses are_uses) (f but rule_uses are_uses follow)

    pub reaches_then : (these those all : ℕ → Bool) → Reaches these a b → Reaches those b c → ((k : ℕ) → k < length a.list.items → all k ≡ (those k || these k)) → Reaches all a c
    reaches_then these those all f g is k less =
        g k (omega (arith, less, first.size)) ∙ ap (λ x. those k || x) (f k less) ∙ assoc (those k) (these k) (was_visited a k) ∙ ap (λ x. x || was_visited a k) (sym (is k less))
      where
        assoc : (x y z : Bool) → x || (y || z) ≡ (x || y) || z
        assoc true y z = refl
        assoc false y z = refl

-- ---- a rule that is pending no more

module _ (holding : ℕ → Bool) (a b : Dependents) (rule : ℕ) (list : b.list.items ≡ a.list.items) (round : b.round ≡ a.round) (items : a.pending.items ≡ b.pending.items ++ rule ∷ []) (space : vec_capacity b.pending ≡ vec_capacity a.pending) where
  pub same_view : {X : Type 0} (f : List Dependent → ℕ → X) → f b.list.items b.round ≡ f a.list.items a.round
  same_view f = ap (λ l. f l b.round) list ∙ ap (f a.list.items) round

  pub same_visited : (k : ℕ) → was_visited b k ≡ was_visited a k
  same_visited k = same_view (λ l r. is_of r (at_number l k))

  same_rules : rules_in b.list.items ≡ rules_in a.list.items
  same_rules = ap rules_in list

  same_visited_rules : visited_rules b ≡ visited_rules a
  same_visited_rules = same_view (λ l r. count_by (λ (x : Dependent). x.is_rule && is_of r x) l)

  pub split_pending : (k : ℕ) → is_pending a k ≡ (is_pending b k || (rule == k))
  split_pending k = ap (list_any (λ n. n == k)) items ∙ list_any-append (λ n. n == k) b.pending.items (rule ∷ []) ∙ ap (λ x. is_pending b k || x) (or-false (rule == k))

  one_less : length a.pending.items ≡ length b.pending.items + 1
  one_less = ap (λ (l : List ℕ). length l) items ∙ length-append b.pending.items (rule ∷ [])

  pub fewer_turns : turns b + 1 ≡ turns a
  fewer_turns = omega (arith, one_less, same_rules, same_visited_rules)

  pub taken_visits : VisitsSome holding a b 0
  taken_visits = record {
    round = round;
    size = ap (λ (l : List Dependent). length l) list;
    each = λ k less. ap (λ l. at_number l k) list ∙ visited_or_not holding a.round (at_number a.list.items k) (was_visited b k) (sym (same_visited k));
    more = λ k less e. same_visited k ∙ e;
    counted = omega (arith, same_view (λ l r. count_by (λ (x : Dependent). is_condition x && is_of r x) l));
    room = λ room. record {
      visited = λ k e. let was = room.visited k (split_pending k ∙ ap (λ x. x || (rule == k)) e) in (omega (arith, was.0, ap (λ (l : List Dependent). length l) list), same_visited k ∙ was.1);
      some = omega (arith, room.some, one_less, same_visited_rules);
      all = omega (arith, room.all, same_rules, space);
    };
    left = omega (arith, fewer_turns);
  }

  -- its dependents may follow later
  pub taken_follows : (rule_uses : List RuleUse) → Follow (λ _. false) rule_uses a → Follow (λ k. rule == k) rule_uses b
  taken_follows rule_uses follow k d less e =
      let l = get_or rule_uses k d in
      let was : (was_visited a l.dependent || is_pending a l.rule) ≡ true = follow k d less (sym (same_visited l.rule) ∙ e) in
      turned (rule == l.rule) (was_visited b l.dependent) (is_pending b l.rule) (ap (λ x. x || (is_pending b l.rule || (rule == l.rule))) (same_visited l.dependent) ∙ ap (λ x. was_visited a l.dependent || x) (sym (split_pending l.rule)) ∙ was)
    where
      turned : (x u w : Bool) → (u || (w || x)) ≡ true → (x || (u || w)) ≡ true
      turned true u w e = refl
      turned false true w e = refl
      turned false false true e = refl
      turned false false false e = e

  -- and do where they are visited
  pub dependents_follow : (c : Dependents) (rule_uses : List RuleUse) → Reaches (uses rule_uses rule) b c → AreRuleUses b.list.items rule_uses → Follow (λ k. rule == k) rule_uses c → Follow (λ _. false) rule_uses c
  dependents_follow c rule_uses reaches are_uses follow k d less e = elim (cases_eq rule (get_or rule_uses k d).rule) [
    | inl same ↦
        let l = get_or rule_uses k d in
        let rule_use = are_uses k d less in
        let used : uses rule_uses rule l.dependent ≡ true = list_any_at (λ (x : RuleUse). x.rule == rule && x.dependent == l.dependent) rule_uses k d less (ap (λ x. x && l.dependent == l.dependent) (eq-eqb l.rule rule (sym same)) ∙ eq-eqb l.dependent l.dependent refl) in
        ap (λ x. x || is_pending c l.rule) (reaches l.dependent rule_use.2 ∙ ap (λ x. x || was_visited b l.dependent) used)
    | inr other ↦
        let l = get_or rule_uses k d in
        sym (ap (λ x. x || (was_visited c l.dependent || is_pending c l.rule)) (ne_eqb rule l.rule other)) ∙ follow k d less e
  ]

  -- where those are visited alone that some hold of, this is so again
  pub dependents_sound : (c : Dependents) (rule_uses : List RuleUse) (these : ℕ → Bool) → Reaches (uses rule_uses rule) b c → HasRoom a → All (λ (l : RuleUse). these l.rule ≡ true → these l.dependent ≡ true) rule_uses
      → ((k : ℕ) → k < length a.list.items → was_visited a k ≡ true → these k ≡ true) → (k : ℕ) → k < length a.list.items → was_visited c k ≡ true → these k ≡ true
  dependents_sound c rule_uses these reaches room closed sound k less e = elim (cases_Bool (was_visited b k)) [
    | inl before ↦ sound k less (sym (same_visited k) ∙ before)
    | inr other ↦
        let used : uses rule_uses rule k ≡ true = sym (reaches k (omega (arith, less, ap (λ (l : List Dependent). length l) list)) ∙ ap (λ x. uses rule_uses rule k || x) other ∙ or-false (uses rule_uses rule k)) ∙ e in
        let was_pending = room.visited rule (split_pending rule ∙ ap (λ x. is_pending b rule || x) (eq-eqb rule rule refl) ∙ or-true (is_pending b rule)) in
        used_sound rule_uses these rule k closed (sound rule was_pending.0 was_pending.1) used
  ]

-- ---- dependents that were visited

-- These were visited, and so many conditions evaluated.
pub record AreVisited (holding these : ℕ → Bool) (old new : Dependents) (count : ℕ) : Type 0 where
  pub visits : VisitsSome holding old new count
  pub reaches : Reaches these old new
  pub follows : KeepsFollowing old new

pub none_visited : (holding these : ℕ → Bool) (a : Dependents) → ((k : ℕ) → k < length a.list.items → these k ≡ false) → AreVisited holding these a a 0
none_visited holding these a none = record {
  visits = visits_none holding a;
  reaches = λ k less. sym (ap (λ b. b || was_visited a k) (none k less));
  follows = λ but rule_uses are_uses follow. follow;
}

-- the same ones
pub same_ones : {holding these all : ℕ → Bool} {a b : Dependents} {m : ℕ} → AreVisited holding these a b m → ((k : ℕ) → k < length a.list.items → all k ≡ these k) → AreVisited holding all a b m
same_ones {a = a} visited is = record { visits = visited.visits; reaches = λ k less. visited.reaches k less ∙ ap (λ x. x || was_visited a k) (sym (is k less)); follows = visited.follows }

-- and one more
pub one_more : {holding these all : ℕ → Bool} {a b c : Dependents} {m total number : ℕ} {evaluated : Bool} → AreVisited holding these a b m → number < length a.list.items → VisitsOne holding number b c evaluated → total ≡ m + one evaluated
    → ((k : ℕ) → k < length a.list.items → all k ≡ (number == k || these k)) → AreVisited holding all a c total
one_more {holding = holding} {these = these} {all = all} {a = a} {b = b} {c = c} {m = m} {number = number} {evaluated = evaluated} visited inside visit sum is =
    let within : number < length b.list.items = omega (arith, inside, visited.visits.size) in
    let second = one_is_some holding number b c evaluated within visit in
    record {
      visits = subst (VisitsSome holding a c) (sym sum) (visits_then holding a b m visited.visits c (one evaluated) second);
      reaches = reaches_then holding a b m visited.visits c (one evaluated) second these (λ k. number == k) all visited.reaches (λ k less. reaches_it holding number b c evaluated within visit k) is;
      follows = follows_then holding a b m visited.visits c (one evaluated) second visited.follows (visit_follows holding number b c evaluated within visit);
    }
