use Rattle.std.proofs.Common.{◌≡◌, ◌==◌, ℕ, ◌≤◌, ◌++◌, length, take}
use Rattle.std.specs.List.{list_any}
use Rattle.hii_values.specs.code.ChoiceViews.{choice_values}
use Rattle.hii_values.specs.Inputs.{element_denial}
use Rattle.hii_values.specs.code.Fitting.{denial_behind}
use Rattle.hii_values.specs.code.ItemsLeft.{items_left}
use Rattle.hii_values.specs.code.MetValues.{is_met, is_sought}
use Rattle.hii_values.proofs.ListLemmas.{before_of}
use Rattle.hii_values.proofs.lists.check_many.Given as goal

-- the elements so far are fine and were met, and with those that are left are all
abbrev pub invariant-loop-item : goal.invariant-loop-item
invariant-loop-item l = record {
  can : goal.iterator-loop-item.can_next l.item-iterator;
  ends : goal.iterator-loop-item.is_finite l.item-iterator;
  all : before_of (items_left l.items) (items_left l.item-iterator) ++ items_left l.item-iterator ≡ items_left l.items;
  few : length (items_left l.item-iterator) ≤ length (items_left l.items);
  sought : (v : ℕ) → is_sought l.before v ≡ list_any (λ item. item == v) (take 255 (items_left l.items));
  met : (v : ℕ) → is_met l.before v ≡ list_any (λ item. item == v) (before_of (items_left l.items) (items_left l.item-iterator));
  same : denial_behind (choice_values l.list.choices) l.list.unique (before_of (items_left l.items) (items_left l.item-iterator)) (items_left l.item-iterator)
      ≡ element_denial (choice_values l.list.choices) l.list.unique (items_left l.items);
}
