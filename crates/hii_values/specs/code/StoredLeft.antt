-- What items in bytes have before them.
use Rattle.std.specs.Prelude.{ℕ, List}
use Rattle.hii_values.specs.Items.{items_in}
use Rattle.hii_values.specs.declared.stored_items.StoredItems.{StoredItems}

-- the items that are left
abbrev pub stored_left : StoredItems → List ℕ
stored_left it = items_in it.width it.bytes.now
