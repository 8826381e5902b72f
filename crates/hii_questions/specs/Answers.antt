-- What questions answer: the values of their fields (UEFI 2.8, 33.2.5.4 Questions).
use Rattle.std.specs.Prelude.{ℕ, ◌==◌, if◌then◌else◌, Option, Some, None, List, length}
use Rattle.ifr_opcodes.specs.Forest.{Node}
use Rattle.ifr_expr.specs.Values.{Value, undefined}
use Rattle.hii_varstore.specs.Stores.{StoreMap, bytes_of_field as field_bytes}
use Rattle.hii_values.specs.Answers.{answer_in}
use Rattle.hii_values.specs.FieldTypes.{FieldType, size_of_type}
use Rattle.hii_values.specs.Types.{type_of}
use Rattle.hii_questions.specs.Fields.{Field, field_of, question_with}

-- A store that does not hold the whole field gives no value.
abbrev pub value_of_bytes : Option FieldType → Option (List ℕ) → Value
value_of_bytes (Some t) (Some bytes) =
    if length bytes == size_of_type t then answer_in t bytes else undefined
value_of_bytes _ _ = undefined

-- the value of a question whose field is this, if it has one
abbrev pub value_of_field : StoreMap → Node → Option Field → Value
value_of_field stores n None = undefined
value_of_field stores n (Some field) =
    value_of_bytes (type_of n) (field_bytes stores field.store field.offset field.width)

abbrev pub answer_of : List Node → StoreMap → Option Node → Value
answer_of ns stores None = undefined
answer_of ns stores (Some n) = value_of_field stores n (field_of ns n)

-- the answer to each question id: that of its question's field, hidden or not; undefined where there is none
abbrev pub answers : List Node → StoreMap → ℕ → Value
answers ns stores id = answer_of ns stores (question_with ns id)
