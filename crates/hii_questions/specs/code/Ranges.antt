-- What the ranges of the code stand for.
use Rattle.std.specs.Prelude.{◌≡◌, ◌≤◌, false, Option, Some, None, ⊤}
use Rattle.std.specs.Coded.{Unit-prop}
use Rattle.std.proofs.Props.{props}
use Rattle.ifr_opcodes.specs.Forest.{Node}
use Rattle.hii_values.specs.Types.{is_password}
use Rattle.hii_values.specs.declared.field_type.TheConstants.{WIDEST_FIELD}
use Rattle.hii_questions.specs.Fields.{Field, field_width}
use Rattle.hii_questions.specs.declared.field_range.FieldRange.{FieldRange}

abbrev pub range_in : FieldRange → Field
range_in range = record { store = range.store; offset = range.offset; width = range.width }

-- The field of a question is as wide as the question says.
abbrev pub HasWidth : Node → Option FieldRange → Type 0
HasWidth n None = ⊤
HasWidth n (Some range) = field_width n ≡ Some range.width

pub HasWidth-prop : (n : Node) (range : Option FieldRange) → IsProp (HasWidth n range)
HasWidth-prop n None = Unit-prop
HasWidth-prop n (Some range) = hlevel props

-- The field of a question that is no password is not too wide.
abbrev pub IsNarrow : Node → Option FieldRange → Type 0
IsNarrow n None = ⊤
IsNarrow n (Some range) = is_password n ≡ false → range.width ≤ WIDEST_FIELD

pub IsNarrow-prop : (n : Node) (range : Option FieldRange) → IsProp (IsNarrow n range)
IsNarrow-prop n None = Unit-prop
IsNarrow-prop n (Some range) = hlevel props
