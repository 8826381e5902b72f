use Rattle.std.proofs.Common.{◌≡◌, ◌==◌, ◌&&◌, ℕ, ◌∷◌, [], ◌++◌, false, List, length, take, sym, ap, ◌∙◌, arith, refl, append_assoc}
use Rattle.std.specs.List.{list_any}
use Rattle.hii_values.specs.code.ChoiceViews.{choice_values}
use Rattle.hii_values.specs.code.Fitting.{denial_behind}
use Rattle.hii_values.specs.code.ItemsLeft.{items_left}
use Rattle.hii_values.proofs.ListLemmas.{before_more, element_more, first_denied}
use Rattle.hii_values.proofs.lists.check_few.Goals as goal
use Rattle.hii_values.proofs.lists.check_few.Goals.{else-list-via-then-list+else-stands_before, else-list-via-else-list}

pub loop-item-init : goal.loop-item-init
loop-item-init c =
    let vs = choice_values c.args.list.choices in
    let unique = c.args.list.unique in
    let all = items_left c.args.items in
    let given : items_left c.into_iter-item-iterator.result ≡ all = ap items_left c.into_iter-item-iterator.ensures.into_iter_gives in
    record { can = tt; ends = tt; all = given; counted = let e = ap (length {A = ℕ}) given in omega (arith, e); same = ap (denial_behind vs unique []) given ∙ sym (first_denied vs unique all) }

pub loop-item-preserved : goal.loop-item-preserved
loop-item-preserved c =
    let list = c.args.list in
    let all = items_left c.args.items in
    let items = items_left c.loop-item.item-iterator in
    let rest = items_left c.next.new.self in
    let item = c.in-Some.item in
    let count = c.loop-item.count in
    let was = c.loop-item.invariant in
    let steps : items ≡ item ∷ rest = c.in-Some.ensures.steps in
    let before = before_more count item all items rest was.all steps was.counted in
    let new : list.unique && list_any (λ earlier. earlier == item) (take count all) ≡ false = elim c.else-list.branch [
      | else-list-via-then-list+else-stands_before w ↦ rw w.if-list.true (sym w.stands_before.ensures ∙ w.if-stands_before.false)
      | else-list-via-else-list w ↦ rw w.if-list.false refl
    ] in
    let more = element_more (choice_values list.choices) list.unique (take count all) item rest c.if-item-eq0.false (sym c.if-not-offer.ensures) new in
    record {
      can = tt;
      ends = tt;
      all = ap (λ (l : List ℕ). l ++ rest) before ∙ append_assoc (take count all) (item ∷ []) rest ∙ ap (λ (l : List ℕ). take count all ++ l) (sym steps) ∙ was.all;
      counted = let e = ap (length {A = ℕ}) steps in let k = was.counted in omega (arith, e, k);
      same = ap (λ (l : List ℕ). denial_behind (choice_values list.choices) list.unique l rest) before ∙ sym more
          ∙ ap (denial_behind (choice_values list.choices) list.unique (take count all)) (sym steps) ∙ was.same;
    }
