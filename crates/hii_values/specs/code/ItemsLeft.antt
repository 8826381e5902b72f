-- What the iterator over items has before it.
use Rattle.std.specs.Prelude.{ℕ, Some, None, List, [], ◌∷◌, chars}
use Rattle.hii_bytes.specs.code.NumbersLeft.{numbers_left}
use Rattle.hii_values.specs.code.StoredLeft.{stored_left}
use Rattle.hii_values.specs.declared.items.Items.{Items}
use Rattle.hii_values.specs.declared.items.Items.TheVariants.{Number, Text, List as ListItems, Stored}

-- the items that are left
abbrev pub items_left : Items → List ℕ
items_left (Number None) = []
items_left (Number (Some n)) = n ∷ []
items_left (Text text) = chars text.now
items_left (ListItems numbers) = numbers_left numbers
items_left (Stored stored) = stored_left stored
