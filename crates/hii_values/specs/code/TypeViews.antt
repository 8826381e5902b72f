-- What the types of fields of the code stand for.
use Rattle.std.specs.Prelude.{ℕ}
use Rattle.ifr_scopes.specs.code.Lists.{statement_node}
use Rattle.hii_values.specs.code.ChoiceViews.{choice_values}
use Rattle.hii_values.specs.FieldTypes as spec
use Rattle.hii_values.specs.Types.{element_width}
use Rattle.hii_values.specs.declared.field_type.FieldType.{FieldType}
use Rattle.hii_values.specs.declared.field_type.FieldType.TheVariants.{Checkbox, Numeric, OneOf, Text, OrderedList}
use Rattle.hii_values.specs.declared.field_type.NumericType.{NumericType}
use Rattle.hii_values.specs.declared.field_type.OneOfType.{OneOfType}
use Rattle.hii_values.specs.declared.field_type.TextType.{TextType}
use Rattle.hii_values.specs.declared.field_type.ListType.{ListType}

abbrev pub numeric_in : NumericType → spec.FieldType
numeric_in t = spec.numeric t.signed t.width t.minimum t.maximum

abbrev pub one_of_in : OneOfType → spec.FieldType
one_of_in t = spec.one_of t.width (choice_values t.choices)

abbrev pub text_in : TextType → spec.FieldType
text_in t = spec.text t.minimum t.maximum

-- how many bytes each value of a list has
abbrev pub list_width : ListType → ℕ
list_width t = element_width (statement_node t.choices.question)

abbrev pub list_in : ListType → spec.FieldType
list_in t = spec.ordered_list (list_width t) t.most t.unique t.some (choice_values t.choices)

abbrev pub type_in : FieldType → spec.FieldType
type_in Checkbox = spec.checkbox
type_in (Numeric t) = numeric_in t
type_in (OneOf t) = one_of_in t
type_in (Text t) = text_in t
type_in (OrderedList t) = list_in t
