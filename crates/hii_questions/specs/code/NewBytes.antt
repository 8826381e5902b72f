-- The new bytes of a `Field` of the code.
use Rattle.std.specs.Prelude.{ℕ, if◌then◌else◌, List, []}
use Rattle.hii_values.specs.code.Contents.{content_bytes}
use Rattle.hii_values.specs.code.ItemsLeft.{items_left}
use Rattle.hii_values.specs.Items.{filled}
use Rattle.hii_questions.specs.declared.field.Field.{Field}

-- as many bytes as the field has
abbrev pub new_bytes : Field → List ℕ
new_bytes field = filled field.width (content_bytes field.content)

-- the values of options that they name
abbrev pub new_items : Field → List ℕ
new_items field = if field.names then items_left field.content.items else []
