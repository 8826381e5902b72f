-- What contracts say of questions, in the words of the chapters.
use Rattle.std.specs.Prelude.{◌≡◌, ℕ, List, Result, Ok, Err, Some, IfSome, length}
use Rattle.browser_rules.specs.Questions as chapter
use Rattle.hii_varstore.specs.Stores.{StoreMap}
use Rattle.hii_values.specs.FieldTypes.{FieldType, checkbox, numeric, one_of, text, ordered_list}
use Rattle.hii_values.specs.Inputs.{Offer, whole, raw, utf8, units, listed, elements, field}
use Rattle.hii_values.specs.declared.denial.DenialKind.{DenialKind}
use Rattle.hii_questions.specs.Changes.{field_bytes}
use Rattle.hii_questions.specs.Fields.{Field, Asked}
use Rattle.rules_laws.specs.Denials.{kind_for}

abbrev pub type_for : FieldType → chapter.FieldType
type_for checkbox = chapter.a_flag
type_for (numeric signed width minimum maximum) = chapter.a_number signed width minimum maximum
type_for (one_of width values) = chapter.a_choice width values
type_for (text minimum maximum) = chapter.a_text minimum maximum
type_for (ordered_list width most unique some values) = chapter.a_list width most unique some values

abbrev pub field_for : Field → chapter.Field
field_for f = record { store = f.store; offset = f.offset; width = f.width }

abbrev pub offer_for : Offer → chapter.Offer
offer_for (whole n) = chapter.whole n
offer_for (raw bits) = chapter.raw bits
offer_for (utf8 bytes) = chapter.utf8 bytes
offer_for (units bytes) = chapter.units bytes
offer_for (listed ns) = chapter.listed ns
offer_for (elements bytes) = chapter.elements bytes
offer_for (field bytes) = chapter.in_field bytes

abbrev pub bytes_or_denial : Result (List ℕ) DenialKind → Result (List ℕ) chapter.DenialKind
bytes_or_denial (Ok bytes) = Ok bytes
bytes_or_denial (Err kind) = Err (kind_for kind)

-- Where stores hold bytes of a question's field, they hold all of them.
abbrev pub HoldsWhole : StoreMap → Asked → Type 0
HoldsWhole m q =
    IfSome q.field (λ f. IfSome (field_bytes m (Some f)) (λ bytes. length bytes ≡ f.width))
