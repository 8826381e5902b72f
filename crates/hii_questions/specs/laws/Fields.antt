-- Laws of questions and their fields.
use Rattle.std.specs.Prelude.{◌≡◌, ◌⊎◌, ℕ, ◌+◌, ◌-◌, ◌*◌, ◌^◌, ◌≤◌, ◌==◌, not, ℤ, pos, negsuc, suc, true, Option, Some, None, Ok, List, [], ◌∷◌, length, chars, filter, Contains, ⊤}
use Rattle.hii_bytes.specs.Faults.{HasNone}
use Rattle.hii_bytes.specs.Numbers.{AreBytes}
use Rattle.ifr_opcodes.specs.Forest.{Node}
use Rattle.ifr_opcodes.specs.Fields.{question_id}
use Rattle.ifr_expr.specs.Values as values
use Rattle.ifr_expr.specs.Values.{Value, undefined, boolean, natural, buffer}
use Rattle.ifr_nodes.specs.Accepted.{IsAccepted}
use Rattle.ifr_nodes.specs.Nodes.{nodes_of, is_question}
use Rattle.hii_varstore.specs.code.Ranges.{HasRange}
use Rattle.hii_varstore.specs.StoreNodes.{layout_of}
use Rattle.hii_varstore.specs.Stores.{StoreMap, shape_of, with_bytes}
use Rattle.hii_values.specs.FieldTypes.{FieldType, checkbox, numeric, one_of, text, ordered_list}
use Rattle.hii_values.specs.Inputs.{Offer, whole, raw, utf8, units, listed, elements, field, read_as}
use Rattle.hii_values.specs.Items.{items_in, spelled, filled}
use Rattle.hii_values.specs.Types.{type_of}
use Rattle.hii_questions.specs.Answers.{value_of_field}
use Rattle.hii_questions.specs.Faults.{IsQuestionFault}
use Rattle.hii_questions.specs.Fields.{Field, Asked, field_of, question_with, has_field}
use Rattle.hii_questions.specs.Fits.{fits, values_offered}

-- Where no question has a fault, each field lies in its store.
abbrev pub HoldsFields : Type 0
HoldsFields = (ns : List Node) (n : Node) (f : Field) → HasNone (IsQuestionFault ns) →
    Contains ns n → is_question n ≡ true → field_of ns n ≡ Some f
    → HasRange (layout_of ns) f.store f.offset f.width

-- The question of an id is a question among the nodes, and has this id.
abbrev pub FindsQuestions : Type 0
FindsQuestions =
    (ns : List Node) (id : ℕ) (n : Node) → question_with ns id ≡ Some n → Contains ns n
    × (is_question n ≡ true) × (question_id n.op ≡ id)

-- The questions with a field are among all, and have exactly this field.
abbrev pub HaveTheField : Type 0
HaveTheField =
    (qs : List Asked) (f : Field) (q : Asked) → Contains (filter (has_field f) qs) q
    → Contains qs q × (q.field ≡ Some f)

-- the two's complement of a number in `width` bytes
abbrev pub complement : ℕ → ℤ → ℕ
complement width (pos n) = n
complement width (negsuc n) = 256 ^ width - suc n

abbrev pub choice : ℤ → Value
choice (pos n) = natural n
choice (negsuc n) = undefined

abbrev pub truth : ℤ → Value
truth (pos n) = boolean (not (n == 0))
truth (negsuc n) = undefined

-- the value that a question has which took an offer
abbrev pub taken_as : FieldType → Offer → Value
taken_as checkbox (whole n) = truth n
taken_as checkbox (raw bits) = boolean (not (bits == 0))
taken_as (numeric signed width minimum maximum) (whole n) = natural (complement width n)
taken_as (numeric signed width minimum maximum) (raw bits) = natural bits
taken_as (one_of width vs) (whole n) = choice n
taken_as (one_of width vs) (raw bits) = natural bits
taken_as (text minimum maximum) (utf8 bytes) = values.text (spelled 2 (chars bytes))
taken_as (text minimum maximum) (units bytes) = values.text (spelled 2 (items_in 2 bytes))
taken_as (ordered_list width most unique some vs) (listed ns) =
    buffer (filled (most * width) (spelled width ns))
taken_as (ordered_list width most unique some vs) (elements bytes) =
    buffer (filled (most * width) (spelled width (items_in width bytes)))
taken_as t offer = undefined

abbrev pub taken_value : Option FieldType → Offer → Value
taken_value None offer = undefined
taken_value (Some t) offer = taken_as t (read_as t offer)

-- The bytes of an offer are bytes.
abbrev pub HasBytes : Offer → Type 0
HasBytes (units bytes) = AreBytes bytes
HasBytes (field bytes) = AreBytes bytes
HasBytes offer = ⊤

-- What a question takes it answers, once the bytes are put: a number as its two's complement, a text as its units, a list
-- filled with zeros.
abbrev pub ReadsBack : Type 0
ReadsBack =
    (m : StoreMap) (ns : List Node) (n : Node) (f : Field) (offer : Offer) (bytes : List ℕ)
    → HasNone (IsQuestionFault ns) →
    Contains ns n → is_question n ≡ true → field_of ns n ≡ Some f → HasBytes offer
    → fits ns n offer ≡ Ok bytes →
    HasRange (shape_of m) f.store f.offset f.width →
    value_of_field (with_bytes m f.store f.offset bytes) n (Some f) ≡ taken_value (type_of n) offer

-- What a question takes are as many bytes as its field has.
abbrev pub FillsFields : Type 0
FillsFields =
    (ns : List Node) (n : Node) (offer : Offer) (f : Field) (bytes : List ℕ)
    → field_of ns n ≡ Some f → fits ns n offer ≡ Ok bytes → length bytes ≡ f.width

-- A write leaves the value of a field that it does not meet.
abbrev pub LeavesOthers : Type 0
LeavesOthers = (m : StoreMap) (id offset : ℕ) (bytes : List ℕ) (n : Node) (f : Field) →
    (f.store ≡ id → (f.offset + f.width ≤ offset) ⊎ (offset + length bytes ≤ f.offset)) →
    value_of_field (with_bytes m id offset bytes) n (Some f) ≡ value_of_field m n (Some f)

-- the values of options that the value of a field names: a number, or the elements of a list
abbrev pub named_values : Option FieldType → Value → List ℕ
named_values (Some (one_of width vs)) (natural n) = n ∷ []
named_values (Some (ordered_list width most unique some vs)) (buffer bytes) = items_in width bytes
named_values t value = []

-- What is read of the field of a question of a package, once it has taken what was offered, names the values of options that were
-- offered.
abbrev pub NamesWhatWasOffered : Type 0
NamesWhatWasOffered =
    (m : StoreMap) (ifr : List ℕ) (n : Node) (f : Field) (offer : Offer) (bytes : List ℕ)
    → AreBytes ifr → IsAccepted ifr → HasNone (IsQuestionFault (nodes_of ifr)) →
    Contains (nodes_of ifr) n → is_question n ≡ true → field_of (nodes_of ifr) n ≡ Some f
    → fits (nodes_of ifr) n offer ≡ Ok bytes →
    HasRange (shape_of m) f.store f.offset f.width →
    named_values (type_of n) (value_of_field (with_bytes m f.store f.offset bytes) n (Some f))
    ≡ values_offered n offer
