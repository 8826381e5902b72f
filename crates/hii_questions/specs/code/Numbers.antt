-- The numbers of the bytes of all stores.
use Rattle.std.specs.Prelude.{ℕ, ◌+◌, ◌*◌, min}
use Rattle.hii_questions.specs.declared.field_range.FieldRange.{FieldRange}

-- the number of the first byte of a field; offsets are less than 65,536, and so are the ends of fields that lie in stores
abbrev pub first_of : FieldRange → ℕ
first_of f = f.store * 131072 + f.offset

-- the number behind the last
abbrev pub behind_of : FieldRange → ℕ
behind_of f = first_of f + min f.width 65536
