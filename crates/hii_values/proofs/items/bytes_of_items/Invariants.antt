use Rattle.std.proofs.Common.{◌≡◌, ◌+◌, ◌*◌, length}
use Rattle.hii_values.specs.Items.{items_in}
use Rattle.hii_values.specs.code.ItemsLeft.{items_left}
use Rattle.hii_values.proofs.items.bytes_of_items.Given as goal

-- the items so far end where those that are left begin
abbrev pub invariant-loop-item : goal.invariant-loop-item
invariant-loop-item l = record {
  can : goal.iterator-loop-item.can_next l._item-iterator;
  ends : goal.iterator-loop-item.is_finite l._item-iterator;
  counted : l.end + length (items_left l._item-iterator) * l.width ≡ length (items_in l.width l.bytes) * l.width;
}
