-- A dependent that is visited in a round.
use Rattle.std.proofs.Common.{◌≡◌, ℕ, zero, suc, ◌+◌, ◌<◌, ◌≤◌, ◌==◌, ◌&&◌, ◌||◌, not, Bool, true, false, cond, List, [], ◌∷◌, length, get_or, count_by, refl, sym, ap, ◌∙◌, subst, inl, inr, arith}
use Rattle.std.specs.Prelude.{slice_set}
use Rattle.std.specs.List.{list_any}
use Rattle.std.specs.Vec.{vec_capacity, vec_len}
use Rattle.std.proofs.lemmas.Bool.{cases_Bool, cases_eq, cond-true, cond-false, eq-eqb, ne_eqb, false≢true}
use Rattle.std.proofs.lemmas.List.{get_or_default, get_or-set_same, get_or-set_other, length-append, length-set}
use Rattle.std.proofs.lemmas.List.Folds.{list_any-append}
use Rattle.std.proofs.lemmas.List.Sums.{sum_by-set, sum_by-cons}
use Rattle.std.proofs.Math.Bool.{or-true}
use Rattle.kept_conditions.specs.code.Dependents.{no_dependent, at_number, is_condition, is_of, visited, was_visited, is_pending, rules_in, visited_rules, visited_conditions, HasRoom, VisitsOne, VisitsSome, KeepsFollowing}
use Rattle.kept_conditions.specs.declared.dependents.Dependent.{Dependent}
use Rattle.kept_conditions.specs.declared.dependents.Dependents.{Dependents}
use Rattle.kept_conditions.proofs.FilterLemmas.{one}

-- ---- one dependent

module _ (holding : ℕ → Bool) (round : ℕ) (r : Dependent) where
  abbrev fresh : Dependent
  fresh = record { place = r.place; round = round; is_rule = r.is_rule; holds = cond r.is_rule r.holds (holding r.place) }

  pub visited_done : is_of round r ≡ true → visited holding round r ≡ r
  visited_done done = cond-true (is_of round r) r fresh done

  pub visited_new : is_of round r ≡ false → visited holding round r ≡ fresh
  visited_new other = cond-false (is_of round r) r fresh other

  pub visited_is_of : is_of round (visited holding round r) ≡ true
  visited_is_of = elim (cases_Bool (is_of round r)) [
    | inl done ↦ ap (is_of round) (visited_done done) ∙ done
    | inr other ↦ ap (is_of round) (visited_new other) ∙ eq-eqb round round refl
  ]

  pub visited_is_rule : (visited holding round r).is_rule ≡ r.is_rule
  visited_is_rule = elim (cases_Bool (is_of round r)) [
    | inl done ↦ ap (λ (x : Dependent). x.is_rule) (visited_done done)
    | inr other ↦ ap (λ (x : Dependent). x.is_rule) (visited_new other)
  ]

  pub visited_or_not : (b : Bool) → is_of round r ≡ b → r ≡ cond b (visited holding round r) r
  visited_or_not true e = sym (visited_done e)
  visited_or_not false e = refl

pub visited_twice : (holding : ℕ → Bool) (round : ℕ) (r : Dependent) → visited holding round (visited holding round r) ≡ visited holding round r
visited_twice holding round r = visited_done holding round (visited holding round r) (visited_is_of holding round r)

-- ---- counts

fewer_one : (a b : Bool) → one (a && b) ≤ one a
fewer_one true true = omega arith
fewer_one true false = omega arith
fewer_one false b = omega arith

pub fewer : {X : Type 0} (p q : X → Bool) (xs : List X) → count_by (λ x. p x && q x) xs ≤ count_by p xs
fewer p q [] = omega arith
fewer p q (x ∷ xs) =
    let behind = fewer p q xs in
    let here : one (p x && q x) ≤ one (p x) = fewer_one (p x) (q x) in
    let left = sum_by-cons (λ y. one (p y && q y)) x xs in
    let right = sum_by-cons (λ y. one (p y)) x xs in
    omega (arith, behind, here, left, right)

set_count : (p : Dependent → Bool) (rs : List Dependent) (i : ℕ) (y : Dependent) → i < length rs → count_by p (slice_set rs i y) + one (p (at_number rs i)) ≡ count_by p rs + one (p y)
set_count p rs i y within = sum_by-set (λ r. one (p r)) rs i y no_dependent within

-- ---- the dependent of a number is visited

module _ (holding : ℕ → Bool) (number : ℕ) (old new : Dependents) (evaluated : Bool) (within : number < length old.list.items) (m : VisitsOne holding number old new evaluated) where
  abbrev o : Dependent
  o = at_number old.list.items number

  abbrev o' : Dependent
  o' = visited holding old.round o

  same_visited : (k : ℕ) → was_visited new k ≡ is_of old.round (at_number new.list.items k)
  same_visited k = ap (λ n. is_of n (at_number new.list.items k)) m.round

  here : at_number new.list.items number ≡ o'
  here = ap (λ l. at_number l number) m.list ∙ get_or-set_same old.list.items number o' no_dependent within

  there : (k : ℕ) → (number ≡ k → ⊥) → at_number new.list.items k ≡ at_number old.list.items k
  there k other = ap (λ l. at_number l k) m.list ∙ get_or-set_other old.list.items number k o' no_dependent (λ e. other (sym e))

  here_visited : was_visited new number ≡ true
  here_visited = same_visited number ∙ ap (is_of old.round) here ∙ visited_is_of holding old.round o

  there_visited : (k : ℕ) → (number ≡ k → ⊥) → was_visited new k ≡ was_visited old k
  there_visited k other = same_visited k ∙ ap (is_of old.round) (there k other)

  pub reaches_it : (k : ℕ) → was_visited new k ≡ (number == k || was_visited old k)
  reaches_it k = elim (cases_eq number k) [
    | inl same ↦ subst (λ j. was_visited new j ≡ true) same here_visited ∙ sym (ap (λ b. b || was_visited old k) (eq-eqb number k same))
    | inr other ↦ there_visited k other ∙ sym (ap (λ b. b || was_visited old k) (ne_eqb number k other))
  ]

  each_it : (k : ℕ) → at_number new.list.items k ≡ cond (was_visited new k) (visited holding old.round (at_number old.list.items k)) (at_number old.list.items k)
  each_it k = elim (cases_eq number k) [
    | inl same ↦
        subst (λ j. at_number new.list.items j ≡ visited holding old.round (at_number old.list.items j)) same here
        ∙ sym (cond-true (was_visited new k) (visited holding old.round (at_number old.list.items k)) (at_number old.list.items k) (subst (λ j. was_visited new j ≡ true) same here_visited))
    | inr other ↦ there k other ∙ visited_or_not holding old.round (at_number old.list.items k) (was_visited new k) (sym (there_visited k other))
  ]

  more_it : (k : ℕ) → was_visited old k ≡ true → was_visited new k ≡ true
  more_it k e = reaches_it k ∙ ap (λ b. number == k || b) e ∙ or-true (number == k)

  -- whether it is a condition, or a rule, that was not visited before
  counts : (p : Dependent → Bool) → p o' ≡ p o → count_by (λ r. p r && is_of old.round r) new.list.items ≡ count_by (λ r. p r && is_of old.round r) old.list.items + one (not (was_visited old number) && p o)
  counts p same =
      let all = set_count (λ r. p r && is_of old.round r) old.list.items number o' within in
      let is : count_by (λ r. p r && is_of old.round r) new.list.items ≡ count_by (λ r. p r && is_of old.round r) (slice_set old.list.items number o') = ap (count_by (λ r. p r && is_of old.round r)) m.list in
      let now : (p o' && is_of old.round o') ≡ (p o && true) = ap (λ b. b && is_of old.round o') same ∙ ap (λ b. p o && b) (visited_is_of holding old.round o) in
      let step : one (p o && true) ≡ one (p o && is_of old.round o) + one (not (is_of old.round o) && p o) = split (p o) (is_of old.round o) in
      omega (arith, all, is, ap one now, step)
    where
      split : (a b : Bool) → one (a && true) ≡ one (a && b) + one (not b && a)
      split true true = refl
      split true false = refl
      split false true = refl
      split false false = refl

  is_rule_same : o'.is_rule ≡ o.is_rule
  is_rule_same = visited_is_rule holding old.round o

  rules_same : rules_in new.list.items ≡ rules_in old.list.items
  rules_same =
      let all = set_count (λ r. r.is_rule) old.list.items number o' within in
      let is = ap rules_in m.list in
      omega (arith, all, is, ap one is_rule_same)

  rules_more : visited_rules new ≡ visited_rules old + one (not (was_visited old number) && o.is_rule)
  rules_more = ap (λ n. count_by (λ (r : Dependent). r.is_rule && is_of n r) new.list.items) m.round ∙ counts (λ r. r.is_rule) is_rule_same

  conditions_more : visited_conditions new ≡ visited_conditions old + one evaluated
  conditions_more =
      ap (λ n. count_by (λ (r : Dependent). is_condition r && is_of n r) new.list.items) m.round ∙ counts is_condition (ap not is_rule_same)
      ∙ ap (λ b. visited_conditions old + one b) (sym m.told)

  pending_more : length new.pending.items ≡ length old.pending.items + one (not (was_visited old number) && o.is_rule)
  pending_more =
      ap (λ (l : List ℕ). length l) m.pending ∙ length-append old.pending.items (cond (not (was_visited old number) && o.is_rule) (number ∷ []) [])
      ∙ ap (λ n. length old.pending.items + n) (long (not (was_visited old number) && o.is_rule))
    where
      long : (b : Bool) → length (cond b (number ∷ []) []) ≡ one b
      long true = refl
      long false = refl

  abbrev more_pending : List ℕ
  more_pending = cond (not (was_visited old number) && o.is_rule) (number ∷ []) []

  among_more : (k : ℕ) (b : Bool) → list_any (λ n. n == k) (cond b (number ∷ []) []) ≡ true → number ≡ k
  among_more k true e = elim (cases_eq number k) [
    | inl same ↦ same
    | inr other ↦ absurd (false≢true (sym (ap (λ b. b || false) (ne_eqb number k other)) ∙ e))
  ]
  among_more k false e = absurd (false≢true e)

  pending_visited : HasRoom old → (k : ℕ) → is_pending new k ≡ true → (k < length new.list.items) × (was_visited new k ≡ true)
  pending_visited room k e =
      let size : length new.list.items ≡ length old.list.items = ap (λ (l : List Dependent). length l) m.list ∙ length-set old.list.items number o' in
      elim (cases_Bool (is_pending old k)) [
        | inl before ↦ let was = room.visited k before in (omega (arith, was.0, size), more_it k was.1)
        | inr other ↦
            let split : is_pending new k ≡ (is_pending old k || list_any (λ n. n == k) more_pending) = ap (list_any (λ n. n == k)) m.pending ∙ list_any-append (λ n. n == k) old.pending.items more_pending in
            let same : number ≡ k = among_more k (not (was_visited old number) && o.is_rule) (sym (split ∙ ap (λ b. b || list_any (λ n. n == k) more_pending) other) ∙ e) in
            (omega (arith, within, size, same), subst (λ j. was_visited new j ≡ true) same here_visited)
      ]

  pub one_is_some : VisitsSome holding old new (one evaluated)
  one_is_some = record {
    round = m.round;
    size = ap (λ (l : List Dependent). length l) m.list ∙ length-set old.list.items number o';
    each = λ k less. each_it k;
    more = λ k less. more_it k;
    counted = sym conditions_more;
    room = λ room. record { visited = λ k e. pending_visited room k e; some = omega (arith, room.some, pending_more, rules_more); all = omega (arith, room.all, rules_same, m.room) };
    left = let top = fewer (λ (r : Dependent). r.is_rule) (is_of new.round) new.list.items in omega (arith, pending_more, rules_more, rules_same, top);
  }

  -- ---- what follows from rules that were visited

  pending_still : (k : ℕ) → is_pending old k ≡ true → is_pending new k ≡ true
  pending_still k e =
      ap (list_any (λ n. n == k)) m.pending ∙ list_any-append (λ n. n == k) old.pending.items (cond (not (was_visited old number) && o.is_rule) (number ∷ []) [])
      ∙ ap (λ b. b || list_any (λ n. n == k) (cond (not (was_visited old number) && o.is_rule) (number ∷ []) [])) e

  pending_itself : was_visited old number ≡ false → o.is_rule ≡ true → is_pending new number ≡ true
  pending_itself other rule =
      let more : cond (not (was_visited old number) && o.is_rule) (number ∷ []) [] ≡ number ∷ [] = cond-true (not (was_visited old number) && o.is_rule) (number ∷ []) [] (ap (λ b. not b && o.is_rule) other ∙ rule) in
      ap (list_any (λ n. n == number)) m.pending ∙ list_any-append (λ n. n == number) old.pending.items (cond (not (was_visited old number) && o.is_rule) (number ∷ []) [])
      ∙ ap (λ l. is_pending old number || list_any (λ n. n == number) l) more ∙ ap (λ b. is_pending old number || (b || false)) (eq-eqb number number refl) ∙ or-true (is_pending old number)

  pub visit_follows : KeepsFollowing old new
  visit_follows but rule_uses are_uses follow = λ k d less now.
      let l = get_or rule_uses k d in
      let rule_use = are_uses k d less in
      let before : was_visited old l.rule ≡ true → (but l.rule || (was_visited new l.dependent || is_pending new l.rule)) ≡ true = λ e.
      wider (but l.rule) (was_visited old l.dependent) (is_pending old l.rule) (was_visited new l.dependent) (is_pending new l.rule) (more_it l.dependent) (pending_still l.rule) (follow k d less e) in
      elim (cases_eq number l.rule) [
        | inl same ↦ elim (cases_Bool (was_visited old l.rule)) [
          | inl done ↦ before done
          | inr other ↦
              let rule : o.is_rule ≡ true = ap (λ n. (at_number old.list.items n).is_rule) same ∙ rule_use.1 in
              last (but l.rule) (was_visited new l.dependent) (is_pending new l.rule) (ap (is_pending new) (sym same) ∙ pending_itself (ap (was_visited old) same ∙ other) rule)
        ]
        | inr other ↦ before (sym (there_visited l.rule other) ∙ now)
      ]
    where
      wider : (b u w u' w' : Bool) → (u ≡ true → u' ≡ true) → (w ≡ true → w' ≡ true) → b || (u || w) ≡ true → b || (u' || w') ≡ true
      wider true u w u' w' f g e = refl
      wider false true w u' w' f g e = ap (λ b. b || w') (f refl)
      wider false false true u' w' f g e = ap (λ b. u' || b) (g refl) ∙ or-true u'
      wider false false false u' w' f g e = absurd (false≢true e)

      last : (b u w : Bool) → w ≡ true → b || (u || w) ≡ true
      last true u w e = refl
      last false true w e = refl
      last false false w e = e

-- There is room for a rule that was not visited.
strictly_fewer : {X : Type 0} (p q : X → Bool) (xs : List X) (i : ℕ) (d : X) → i < length xs → p (get_or xs i d) ≡ true → q (get_or xs i d) ≡ false → count_by (λ x. p x && q x) xs + 1 ≤ count_by p xs
strictly_fewer p q [] i d less takes leaves = absurd (omega (arith, less))
strictly_fewer p q (x ∷ xs) zero d less takes leaves =
    let behind = fewer p q xs in
    let left = sum_by-cons (λ y. one (p y && q y)) x xs in
    let right = sum_by-cons (λ y. one (p y)) x xs in
    let here : one (p x && q x) ≡ 0 = rw (takes, leaves) refl in
    let all : one (p x) ≡ 1 = rw takes refl in
    omega (arith, behind, left, right, here, all)
strictly_fewer p q (x ∷ xs) (suc i) d less takes leaves =
    let behind = strictly_fewer p q xs i d (omega (arith, less)) takes leaves in
    let here : one (p x && q x) ≤ one (p x) = fewer_one (p x) (q x) in
    let left = sum_by-cons (λ y. one (p y && q y)) x xs in
    let right = sum_by-cons (λ y. one (p y)) x xs in
    omega (arith, behind, here, left, right)

pub has_room : (rs : Dependents) (number : ℕ) → number < length rs.list.items → HasRoom rs → (at_number rs.list.items number).is_rule ≡ true → was_visited rs number ≡ false → length rs.pending.items < vec_capacity rs.pending
has_room rs number within room rule other =
    let some = strictly_fewer (λ (r : Dependent). r.is_rule) (is_of rs.round) rs.list.items number no_dependent within rule other in
    omega (arith, some, room.some, room.all)

-- the same, of a dependent that was read
pub room_for : (rs : Dependents) (number : ℕ) (r : Dependent) → number < length rs.list.items → HasRoom rs → r ≡ get_or rs.list.items number r → r.is_rule ≡ true → (r.round ≡ rs.round → ⊥) → vec_len rs.pending < vec_capacity rs.pending
room_for rs number r within room is rule other =
    let same : at_number rs.list.items number ≡ r = get_or_default rs.list.items number no_dependent r within ∙ sym is in
    subst (λ (n : ℕ). n < vec_capacity rs.pending) (sym rs.pending.ok.0)
    (has_room rs number within room (ap (λ (x : Dependent). x.is_rule) same ∙ rule) (ap (is_of rs.round) same ∙ ne_eqb r.round rs.round other))
