-- What a question takes as its value (own rule).
use Rattle.std.specs.Prelude.{ℕ, Option, Some, None, Result, Err, List, []}
use Rattle.ifr_opcodes.specs.Forest.{Node}
use Rattle.hii_values.specs.FieldTypes.{FieldType}
use Rattle.hii_values.specs.Inputs.{Offer, read_as, fits_type, values_in}
use Rattle.hii_values.specs.Types.{type_of}
use Rattle.hii_values.specs.declared.denial.DenialKind.{DenialKind}
use Rattle.hii_values.specs.declared.denial.DenialKind.TheVariants.{Kind}
use Rattle.hii_questions.specs.Fields.{Field, field_of}

-- A question without a field takes nothing.
abbrev pub fits_field : Option FieldType → Option Field → Offer → Result (List ℕ) DenialKind
fits_field (Some t) (Some field) offer = fits_type t (read_as t offer)
fits_field _ _ offer = Err Kind

-- the new bytes of the whole field of a question among all nodes, or why there are none
abbrev pub fits : List Node → Node → Offer → Result (List ℕ) DenialKind
fits ns n offer = fits_field (type_of n) (field_of ns n) offer

-- the values of options that an offer to a question names
abbrev pub values_for : Option FieldType → Offer → List ℕ
values_for None offer = []
values_for (Some t) offer = values_in t (read_as t offer)

abbrev pub values_offered : Node → Offer → List ℕ
values_offered n offer = values_for (type_of n) offer
