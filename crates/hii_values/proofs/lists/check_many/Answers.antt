use Rattle.std.proofs.Common.{◌≡◌, ◌==◌, ◌&&◌, ◌||◌, not, ℕ, ◌∷◌, [], ◌++◌, true, false, List, length, take, sym, ap, ◌∙◌, arith, refl, append_assoc}
use Rattle.std.specs.List.{list_any}
use Rattle.std.proofs.lemmas.Bool.{eq-eqb, or_left, or_right}
use Rattle.hii_values.specs.Inputs.{is_offered}
use Rattle.hii_values.specs.code.ChoiceViews.{choice_values}
use Rattle.hii_values.specs.code.Fitting.{denial_behind}
use Rattle.hii_values.specs.code.ItemsLeft.{items_left}
use Rattle.hii_values.specs.code.MetValues.{is_sought}
use Rattle.hii_values.proofs.ListLemmas.{before_of, before_one, element_denied, element_more, first_denied, none_before}
use Rattle.hii_values.proofs.MetLemmas.{among_front, before_met}
use Rattle.hii_values.proofs.lists.check_many.Goals as goal
use Rattle.hii_values.proofs.lists.check_many.Goals.{then-item-eq0-via-then-item-eq0, then-item-eq0-via-else-item-eq0+then-not-has_met, else-list-via-then-list+else-has_met, else-list-via-else-list}

pub loop-item-init : goal.loop-item-init
loop-item-init c =
    let vs = choice_values c.args.list.choices in
    let unique = c.args.list.unique in
    let all = items_left c.args.items in
    let given : items_left c.into_iter-item-iterator.result ≡ all = ap items_left c.into_iter-item-iterator.ensures.into_iter_gives in
    let none : before_of all (items_left c.into_iter-item-iterator.result) ≡ [] = none_before all (items_left c.into_iter-item-iterator.result) given in
    record {
      can = tt;
      ends = tt;
      all = rw none given;
      few = let e = ap (length {A = ℕ}) given in omega (arith, e);
      sought = c.of-before.ensures.sought;
      met = λ v. c.of-before.ensures.none v ∙ sym (ap (list_any (λ x. x == v)) none);
      same = rw none (ap (denial_behind vs unique []) given ∙ sym (first_denied vs unique all));
    }

pub returns-then-item-eq0 : goal.returns-then-item-eq0
returns-then-item-eq0 c =
    let vs = choice_values c.args.list.choices in
    let unique = c.args.list.unique in
    let all = items_left c.args.items in
    let left = items_left c.loop-item.item-iterator in
    let rest = items_left c.next.new.self in
    let item = c.in-Some.item in
    let was = c.loop-item.invariant in
    let steps : left ≡ item ∷ rest = c.in-Some.ensures.steps in
    let sought : is_sought c.offered_values-offered.result item ≡ true =
    c.offered_values-offered.ensures.sought item ∙ among_front item (before_of all left) rest all (ap (λ (l : List ℕ). before_of all left ++ l) (sym steps) ∙ was.all) c.requires in
    let bad : ((item == 0) || not (is_offered vs item)) ≡ true = elim c.then-item-eq0.branch [
      | then-item-eq0-via-then-item-eq0 w ↦ or_left (item == 0) (not (is_offered vs item)) (eq-eqb item 0 w.if-item-eq0.true)
      | then-item-eq0-via-else-item-eq0+then-not-has_met w ↦
          let none : is_offered vs item ≡ false =
          sym (ap (λ b. b && is_offered vs item) sought) ∙ sym (c.offered_values-offered.ensures.met item) ∙ sym w.if-not-has_met.ensures in
          or_right (item == 0) (not (is_offered vs item)) (ap not none)
    ] in
    sym was.same ∙ ap (denial_behind vs unique (before_of all left)) steps ∙ element_denied vs unique (before_of all left) item rest bad

pub loop-item-preserved : goal.loop-item-preserved
loop-item-preserved c =
    let list = c.args.list in
    let vs = choice_values list.choices in
    let all = items_left c.args.items in
    let left = items_left c.loop-item.item-iterator in
    let rest = items_left c.next.new.self in
    let item = c.in-Some.item in
    let was = c.loop-item.invariant in
    let before = before_of all left in
    let steps : left ≡ item ∷ rest = c.in-Some.ensures.steps in
    let more : before_of all rest ≡ before ++ item ∷ [] = before_one item all left rest was.all steps was.few in
    let whole : before ++ item ∷ rest ≡ all = ap (λ (l : List ℕ). before ++ l) (sym steps) ∙ was.all in
    let sought : list_any (λ x. x == item) (take 255 all) ≡ true = among_front item before rest all whole c.requires in
    let has : is_offered vs item ≡ true =
    sym (ap (λ b. b && is_offered vs item) (c.offered_values-offered.ensures.sought item ∙ sought)) ∙ sym (c.offered_values-offered.ensures.met item) ∙ sym c.if-not-has_met.ensures in
    let new : list.unique && list_any (λ earlier. earlier == item) before ≡ false = elim c.else-list.branch [
      | else-list-via-then-list+else-has_met w ↦ rw w.if-list.true (sym (was.met item) ∙ sym w.has_met-then-list.ensures ∙ w.if-has_met.false)
      | else-list-via-else-list w ↦ rw w.if-list.false refl
    ] in
    record {
      can = tt;
      ends = tt;
      all = ap (λ (l : List ℕ). l ++ rest) more ∙ append_assoc before (item ∷ []) rest ∙ whole;
      few = let e = ap (length {A = ℕ}) steps in let f = was.few in omega (arith, e, f);
      sought = λ v. c.meet.ensures.sought v ∙ was.sought v;
      met = λ v. c.meet.ensures.met v ∙ ap (λ b. b || (is_sought c.loop-item.before v && (item == v))) (was.met v)
          ∙ before_met item before (is_sought c.loop-item.before v) v (λ is. ap (is_sought c.loop-item.before) (sym is) ∙ was.sought item ∙ sought) ∙ sym (ap (list_any (λ x. x == v)) more);
      same = ap (λ (l : List ℕ). denial_behind vs list.unique l rest) more ∙ sym (element_more vs list.unique before item rest c.if-item-eq0.false has new)
          ∙ ap (denial_behind vs list.unique before) (sym steps) ∙ was.same;
    }
