use Rattle.std.proofs.Common.{◌≡◌, ◌++◌, ◌≤◌, length}
use Rattle.hii_values.specs.code.ItemsLeft.{items_left}
use Rattle.hii_values.proofs.met_values.first_values.Given as goal

-- the items are those that are kept, and those that are left
abbrev pub invariant-loop-item : goal.invariant-loop-item
invariant-loop-item l = record {
  can : goal.iterator-loop-item.can_next l.item-iterator;
  ends : goal.iterator-loop-item.is_finite l.item-iterator;
  few : length l.values.items ≤ 255;
  all : l.values.items ++ items_left l.item-iterator ≡ items_left l.items;
}
