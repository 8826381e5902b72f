use Rattle.std.proofs.Common.{◌≡◌, ◌+◌, ◌≤◌, ◌++◌, length, take}
use Rattle.hii_values.specs.code.Contents.{content_bytes}
use Rattle.hii_values.specs.Items.{spelled}
use Rattle.hii_values.specs.code.ItemsLeft.{items_left}
use Rattle.hii_values.proofs.content.Content.write.Given as goal

-- the bytes so far, and those of the items that are left, are all
abbrev pub invariant-loop-item : goal.invariant-loop-item
invariant-loop-item l = record {
  can : goal.iterator-loop-item.can_next l.item-iterator;
  ends : goal.iterator-loop-item.is_finite l.item-iterator;
  within : l.end + length (spelled l.self.width (items_left l.item-iterator)) ≤ length l.into;
  written : take l.end l.into ++ spelled l.self.width (items_left l.item-iterator) ≡ content_bytes l.self;
}
