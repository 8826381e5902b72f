-- What the check of a value tells.
use Rattle.std.specs.Prelude.{◌≡◌, ◌<◌, ◌^◌, Some, Result, Ok, Err, List, Contains}
use Rattle.ifr_opcodes.specs.Fields.{type_width, option_kind, option_value}
use Rattle.ifr_opcodes.specs.Forest.{Node}
use Rattle.hii_values.specs.Inputs.{Offer}
use Rattle.hii_values.specs.Types.{type_of}
use Rattle.hii_values.specs.declared.denial.ValueDenial.{ValueDenial}
use Rattle.hii_questions.specs.Fields as fields
use Rattle.hii_questions.specs.Fields.{Asked}
use Rattle.hii_questions.specs.Fits.{fits_field, values_offered}
use Rattle.hii_questions.specs.code.NewBytes.{new_bytes, new_items}
use Rattle.hii_questions.specs.declared.field.Field.{Field}

-- the bytes of a store that are to be new
abbrev pub range_of : Field → fields.Field
range_of new = record { store = new.store; offset = new.offset; width = new.width }

-- New bytes for the question's field where they are those of the value, or at the question's place why there are none.
abbrev pub Checks : Asked → Offer → Result Field ValueDenial → Type 0
Checks q offer (Ok new) =
    (fits_field (type_of q.node) q.field offer ≡ Ok (new_bytes new))
    × (q.field ≡ Some (range_of new))
Checks q offer (Err denial) =
    (fits_field (type_of q.node) q.field offer ≡ Err denial.kind) × (denial.place ≡ q.node.place)

-- The value of each of these options fits the width of its Type, as that of every option of a package does (UEFI 2.8,
-- 33.3.8.3, EFI_IFR_ONE_OF_OPTION).
abbrev pub ValuesFit : List Node → Type 0
ValuesFit os = (o : Node) → Contains os o → option_value o.op < 256 ^ type_width (option_kind o.op)

-- The items of new bytes are the values of options that were offered.
abbrev pub NamesItems : Asked → Offer → Field → Type 0
NamesItems q offer new = new_items new ≡ values_offered q.node offer
