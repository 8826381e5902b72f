-- What a `Content` of the code stands for.
use Rattle.std.specs.Prelude.{ℕ, List}
use Rattle.hii_values.specs.Items.{spelled}
use Rattle.hii_values.specs.code.ItemsLeft.{items_left}
use Rattle.hii_values.specs.declared.content.Content.{Content}

-- the bytes in front of the zeros
abbrev pub content_bytes : Content → List ℕ
content_bytes content = spelled content.width (items_left content.items)
