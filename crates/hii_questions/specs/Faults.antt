-- Questions whose store is not there, or does not hold their field, and options whose values do not suit (own rule).
use Rattle.std.specs.Prelude.{ℕ, ◌+◌, ◌^◌, Bool, false, ◌==◌, ◌&&◌, nat_lt, nat_le, not, Option, Some, None, List, ◌∷◌, map, filter}
use Rattle.std.specs.List.{list_any, flat_map}
use Rattle.hii_bytes.specs.Faults.{IsFaultOf}
use Rattle.hii_bytes.specs.declared.cause.Cause.{Cause}
use Rattle.hii_bytes.specs.declared.cause.Cause.TheVariants.{UnknownVarstore, FieldOutside, OptionRange, MixedOptions}
use Rattle.ifr_opcodes.specs.Forest.{Node}
use Rattle.ifr_opcodes.specs.Fields.{question_store, one_of_width, option_kind, option_value}
use Rattle.ifr_opcodes.specs.Opcode.{number}
use Rattle.ifr_opcodes.specs.declared.codes.TheConstants.{ONE_OF, ORDERED_LIST}
use Rattle.ifr_nodes.specs.Nodes.{is_store, options}
use Rattle.ifr_scopes.specs.Stores.{store_id}
use Rattle.hii_varstore.specs.Layout.{Shape, size_of}
use Rattle.hii_varstore.specs.StoreNodes.{layout_of}
use Rattle.hii_values.specs.Types.{first_kind}
use Rattle.hii_questions.specs.Fields.{Field, Asked, questions}

-- a store of any kind has the id
abbrev pub is_known : List Node → ℕ → Bool
is_known ns id = list_any (λ s. store_id s.op == id) (filter is_store ns)

-- The question names a store, and no known one.
abbrev pub lacks_store : (ℕ → Bool) → Node → Bool
lacks_store known q = not (question_store q.op == 0) && not (known (question_store q.op))

-- The field reaches past the end of its store.
abbrev pub is_past : Field → Option ℕ → Bool
is_past field None = false
is_past field (Some size) = nat_lt size (field.offset + field.width)

abbrev pub is_field_outside : Shape → Option Field → Bool
is_field_outside shape None = false
is_field_outside shape (Some field) = is_past field (size_of shape field.store)

-- The value of an option of a ONE_OF is no number of the question's width.
abbrev pub is_option_too_large : Node → Node → Bool
is_option_too_large q o =
    number q.op == ONE_OF && nat_le (256 ^ one_of_width q.op) (option_value o.op)

-- An option of an ORDERED_LIST is of another Type than the first.
abbrev pub is_of_another_type : Option ℕ → ℕ → Bool
is_of_another_type None kind = false
is_of_another_type (Some first) kind = not (kind == first)

abbrev pub is_mixed : Node → Node → Bool
is_mixed q o =
    number q.op == ORDERED_LIST && is_of_another_type (first_kind (options q)) (option_kind o.op)

-- the rows of the table of faults: of a question, over the ids and the sizes of stores, and of an option of it
abbrev pub has_field_fault : Shape → (ℕ → Bool) → Asked → Cause → Bool
has_field_fault shape known q UnknownVarstore = lacks_store known q.node
has_field_fault shape known q FieldOutside = is_field_outside shape q.field
has_field_fault shape known q _ = false

abbrev pub has_option_fault : Node → Node → Cause → Bool
has_option_fault q o OptionRange = is_option_too_large q o
has_option_fault q o MixedOptions = is_mixed q o
has_option_fault q o _ = false

-- a question, or an option of one
pub data QuestionPart : Type 0 where
  itself : (q : Asked) → QuestionPart
  option : (q : Asked) (o : Node) → QuestionPart

abbrev pub place_of : QuestionPart → ℕ
place_of (itself q) = q.node.place
place_of (option q o) = o.place

abbrev pub has_question_fault : Shape → (ℕ → Bool) → QuestionPart → Cause → Bool
has_question_fault shape known (itself q) cause = has_field_fault shape known q cause
has_question_fault shape known (option q o) cause = has_option_fault q.node o cause

-- a question and its options, by place
abbrev pub parts_of : Asked → List QuestionPart
parts_of q = itself q ∷ map (option q) (options q.node)

abbrev pub IsQuestionFault : List Node → Cause → ℕ → Type 0
IsQuestionFault ns =
    IsFaultOf place_of (has_question_fault (layout_of ns) (is_known ns))
    (flat_map parts_of (questions ns))
