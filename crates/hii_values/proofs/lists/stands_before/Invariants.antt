use Rattle.std.proofs.Common.{◌≡◌, ◌==◌, take}
use Rattle.std.specs.List.{list_any}
use Rattle.hii_values.specs.code.ItemsLeft.{items_left}
use Rattle.hii_values.proofs.lists.stands_before.Given as goal

-- the item is among those that are left of the first
abbrev pub invariant-loop-item : goal.invariant-loop-item
invariant-loop-item l = record {
  can : goal.iterator-loop-item.can_next l.item-iterator;
  ends : goal.iterator-loop-item.is_finite l.item-iterator;
  same : list_any (λ item. item == l.wanted) (take l.left (items_left l.item-iterator)) ≡ list_any (λ item. item == l.wanted) (take l.count (items_left l.items));
}
