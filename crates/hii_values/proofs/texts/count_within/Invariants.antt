use Rattle.std.proofs.Common.{◌≡◌, ◌+◌, ◌≤◌, length}
use Rattle.hii_values.specs.code.ItemsLeft.{items_left}
use Rattle.hii_values.proofs.texts.count_within.Given as goal

abbrev pub invariant-loop-item : goal.invariant-loop-item
invariant-loop-item l = record {
  can : goal.iterator-loop-item.can_next l._item-iterator;
  ends : goal.iterator-loop-item.is_finite l._item-iterator;
  counted : l.count + length (items_left l._item-iterator) ≡ length (items_left l.initial.items);
  few : l.count ≤ l.most;
}
