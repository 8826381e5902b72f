-- Fields that lie in their stores.
use Rattle.std.specs.Prelude.{◌≡◌, List, Some}
use Rattle.std.specs.List.{AllByRecursion}
use Rattle.std.proofs.Props.{props}
use Rattle.hii_varstore.specs.Layout.{Shape}
use Rattle.hii_varstore.specs.code.Ranges.{HasRange}
use Rattle.hii_questions.specs.Fields.{Asked, Field}

-- the field of a question lies in its store
abbrev pub LiesIn : Shape → Asked → Type 0
LiesIn shape q =
    (field : Field) → q.field ≡ Some field → HasRange shape field.store field.offset field.width

-- those of some questions do
abbrev pub LieIn : Shape → List Asked → Type 0
LieIn shape qs = AllByRecursion (LiesIn shape) qs

pub LieIn-prop : (shape : Shape) (qs : List Asked) → IsProp (LieIn shape qs)
LieIn-prop shape qs = hlevel props
