-- Which conditions a write touches (own rule).
use Rattle.std.specs.Prelude.{ℕ, zero, suc, ◌+◌, ◌==◌, ◌&&◌, ◌||◌, nat_le, nat_lt, Bool, true, false, not, Option, Some, None, option_and_then, List, filter, count_by}
use Rattle.std.specs.List.{list_any}
use Rattle.ifr_opcodes.specs.Forest.{Node}
use Rattle.hii_varstore.specs.Stores.{StoreMap, byte_of}
use Rattle.hii_questions.specs.Fields.{Field, field_of, question_with}
use Rattle.guard_policy.specs.Conditions.{condition_ids, is_kept}

-- Bytes of stores are a test of a store's id and an offset. Of so many bytes of a store from an offset on one is among them.
abbrev pub has_one : (ℕ → ℕ → Bool) → ℕ → ℕ → ℕ → Bool
has_one bytes store offset zero = false
has_one bytes store offset (suc width) = bytes store offset || has_one bytes store (offset + 1) width

-- A field has one of these bytes.
abbrev pub has_byte : (ℕ → ℕ → Bool) → Option Field → Bool
has_byte bytes None = false
has_byte bytes (Some field) = has_one bytes field.store field.offset field.width

-- the field of the question of an id, if there is one
abbrev pub field_with : List Node → ℕ → Option Field
field_with ns id = option_and_then (field_of ns) (question_with ns id)

-- The support of a condition has a field with one of the written bytes.
abbrev pub touches : List Node → (ℕ → ℕ → Bool) → Node → Bool
touches ns written c = list_any (λ id. has_byte written (field_with ns id)) (condition_ids ns c)

-- how many of the conditions that are kept a write touches
abbrev pub renewals : List Node → (ℕ → ℕ → Bool) → ℕ
renewals ns written = count_by (touches ns written) (filter is_kept ns)

-- ---- which bytes are written

-- so many bytes of a store from an offset on
abbrev pub range_of : ℕ → ℕ → ℕ → ℕ → ℕ → Bool
range_of store offset width s at = s == store && (nat_le offset at && nat_lt at (offset + width))

-- the bytes of a field
abbrev pub range_of_field : Field → ℕ → ℕ → Bool
range_of_field field = range_of field.store field.offset field.width

-- the bytes in which two sets of stores differ
abbrev pub is_same : Option ℕ → Option ℕ → Bool
is_same (Some b) (Some c) = b == c
is_same None None = true
is_same _ _ = false

abbrev pub difference : StoreMap → StoreMap → ℕ → ℕ → Bool
difference old new store at = not (is_same (byte_of old store at) (byte_of new store at))
