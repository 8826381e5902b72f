use Rattle.std.proofs.Common.{◌≡◌, ◌+◌, ◌++◌, length, take}
use Rattle.hii_values.specs.code.ChoiceViews.{choice_values}
use Rattle.hii_values.specs.Inputs.{element_denial}
use Rattle.hii_values.specs.code.Fitting.{denial_behind}
use Rattle.hii_values.specs.code.ItemsLeft.{items_left}
use Rattle.hii_values.proofs.lists.check_few.Given as goal

-- the elements so far are fine, and with those that are left are all
abbrev pub invariant-loop-item : goal.invariant-loop-item
invariant-loop-item l = record {
  can : goal.iterator-loop-item.can_next l.item-iterator;
  ends : goal.iterator-loop-item.is_finite l.item-iterator;
  all : take l.count (items_left l.items) ++ items_left l.item-iterator ≡ items_left l.items;
  counted : l.count + length (items_left l.item-iterator) ≡ length (items_left l.items);
  same : denial_behind (choice_values l.list.choices) l.list.unique (take l.count (items_left l.items)) (items_left l.item-iterator)
      ≡ element_denial (choice_values l.list.choices) l.list.unique (items_left l.items);
}
