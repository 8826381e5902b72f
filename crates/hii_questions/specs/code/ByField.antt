-- The numbers of questions in the order of their fields.
use Rattle.std.specs.Prelude.{◌≡◌, ℕ, ◌<◌, All, Bool, List, Option, Some, None, filter, length, map, option_map, slice_index_or}
use Rattle.std.specs.List.Sorted.{IsSortedByKey}
use Rattle.std.specs.Option.{option_cmp}
use Rattle.std.specs.declared.cmp.Ordering.{Ordering}
use Rattle.std.specs.Ordering.{is_le, nat_cmp, ordering_then}
use Rattle.std.proofs.Props.{props}
use Rattle.hii_questions.specs.Fields.{field_passes, is_same_field}
use Rattle.hii_questions.specs.code.Entries.{entry_field}
use Rattle.hii_questions.specs.code.Ranges.{range_in}
use Rattle.hii_questions.specs.declared.entry.QuestionEntry.{QuestionEntry}
use Rattle.hii_questions.specs.declared.field_range.FieldRange.{FieldRange}

-- by store, by offset, and by width
abbrev pub range_cmp : FieldRange → FieldRange → Ordering
range_cmp f g =
    ordering_then (nat_cmp f.store g.store)
    (ordering_then (nat_cmp f.offset g.offset) (nat_cmp f.width g.width))

-- ---- questions by their numbers

-- what is kept of no question, and of the question of a number
abbrev pub no_entry : QuestionEntry
no_entry = record { place = 0; position = 0; field = None }

abbrev pub entry_at : List QuestionEntry → ℕ → QuestionEntry
entry_at es number = slice_index_or es number no_entry

-- the questions of some numbers
abbrev pub entries_at : List QuestionEntry → List ℕ → List QuestionEntry
entries_at es numbers = map (entry_at es) numbers

-- Each is the number of one of these questions.
abbrev pub AreNumbers : List QuestionEntry → List ℕ → Type 0
AreNumbers es numbers = All (λ n. n < length es) numbers

pub AreNumbers-prop : (es : List QuestionEntry) (numbers : List ℕ) → IsProp (AreNumbers es numbers)
AreNumbers-prop es numbers = hlevel props

-- These are the numbers of all these questions, in the order that these have.
pub record AreAllNumbers (es : List QuestionEntry) (numbers : List ℕ) : Type 0 where
  pub within : AreNumbers es numbers
  pub all : entries_at es numbers ≡ es

-- ---- their order

-- where the field of the question of a number lies, if it has one
abbrev pub numbered_field : List QuestionEntry → ℕ → Option FieldRange
numbered_field es number = entry_field (entry_at es number)

-- Questions without a field stand first.
abbrev pub FieldsRise : List QuestionEntry → List ℕ → Type 0
FieldsRise es numbers = IsSortedByKey (numbered_field es) (option_cmp range_cmp) numbers

-- the question of a number does not stand behind a field
abbrev pub is_up_to : List QuestionEntry → FieldRange → ℕ → Bool
is_up_to es f number = is_le (option_cmp range_cmp (numbered_field es number) (Some f))

-- a question that is kept has exactly this field
abbrev pub has_range : FieldRange → QuestionEntry → Bool
has_range f e = field_passes (is_same_field (range_in f)) (option_map range_in (entry_field e))

-- and so has the question of a number
abbrev pub has_range_at : List QuestionEntry → FieldRange → ℕ → Bool
has_range_at es f number = has_range f (entry_at es number)

-- These are the numbers of some questions in the order of their fields, and the questions of one field keep their order.
pub record AreByField (es : List QuestionEntry) (by_field : List ℕ) : Type 0 where
  pub within : AreNumbers es by_field
  pub rise : FieldsRise es by_field
  pub kept : (field : FieldRange)
      → entries_at es (filter (has_range_at es field) by_field) ≡ filter (has_range field) es
