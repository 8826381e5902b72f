-- Questions: their fields, answers and defaults, and what they take (UEFI 2.8, 33.2.5.4 Questions, 33.2.5.6 Storage,
-- 33.2.5.8 Defaults and 33.3.8.3; which values fit, and which of several defaults counts, are own rules).
use Rattle.std.specs.Prelude.{ℕ, ◌==◌, ◌&&◌, nat_lt, if◌then◌else◌, Option, Some, None, option_map, option_and_then}
use Rattle.std.specs.Prelude.{List, drop, is_none, ℤ, zero, suc, ◌+◌, ◌-◌, ◌*◌, ◌/◌, ◌^◌, Bool, ◌||◌, nat_le, not, pos}
use Rattle.std.specs.Prelude.{negsuc, ◌-ℤ◌, int_lt, unwrap_or, Result, Ok, Err, [], ◌∷◌, ◌++◌, length, map, filter}
use Rattle.std.specs.Prelude.{take, replicate, slice_index, slice_range, chars, bit_and}
use Rattle.std.specs.List.{find, list_any, flat_map, take_while}
use Rattle.byteorder.specs.Endian.{little_number, little_bytes}
use Rattle.std.specs.Str.{is_utf8}
use Rattle.browser_rules.specs.Words.{first, is_among}
use Rattle.browser_rules.specs.Values as values
use Rattle.browser_rules.specs.Values.{as_number, Value, undefined, boolean, natural, buffer}
use Rattle.browser_rules.specs.Opcodes.{a_default, is_a, field, type_width, CHECKBOX, ONE_OF, ONE_OF_OPTION, DEFAULT}
use Rattle.browser_rules.specs.Opcodes.{field_in, fields_end, number_width, QUESTION_HEADER, FLAGGED_QUESTION, NUMERIC}
use Rattle.browser_rules.specs.Opcodes.{STRING, PASSWORD, ORDERED_LIST}
use Rattle.browser_rules.specs.Forest.{Node}
use Rattle.browser_rules.specs.Expressions.{value_of}
use Rattle.browser_rules.specs.Nodes.{is, question_id, options, in_question, default_expression, rules_of, is_question}
use Rattle.browser_rules.specs.Stores.{Stores, bytes_of, with_bytes, size_of}

-- ---- what a question holds

pub data FieldType : Type 0 where
  a_flag : FieldType
  -- a number of `width` bytes, from `minimum` to `maximum`
  a_number : (signed : Bool) (width minimum maximum : ℕ) → FieldType
  -- a number of `width` bytes, the value of an option
  a_choice : (width : ℕ) (offered : List ℕ) → FieldType
  -- from `minimum` to `maximum` units of two bytes
  a_text : (minimum maximum : ℕ) → FieldType
  -- at most `most` values of options of `width` bytes; `unique`: none comes twice, `some`: one must be there
  a_list : (width most : ℕ) (unique some : Bool) (offered : List ℕ) → FieldType

abbrev pub has_flag : ℕ → ℕ → Bool
has_flag flags flag = not (bit_and flags flag == 0)

-- the Type of an option's value, and the value, a number without a sign
abbrev pub option_type : Node → ℕ
option_type o = field ONE_OF_OPTION "Type" o.op

abbrev pub option_value : Node → ℕ
option_value o = little_number (type_width (option_type o)) (drop 6 o.op)

-- the elements of a list are as wide as its first option's value; without options they have a byte (own rule)
abbrev pub element_width : Node → ℕ
element_width q = unwrap_or (option_map (λ o. type_width (option_type o)) (first (options q))) 1

-- the numbers behind the fields of a NUMERIC: the least (0), the greatest (1), the step (2), which is no condition
abbrev pub bound : ℕ → Node → ℕ
bound n q =
    let width = number_width (field_in FLAGGED_QUESTION "Flags" q.op) in
    little_number width (drop (fields_end FLAGGED_QUESTION + n * width) q.op)

-- Dates, times, actions and references hold nothing (own rule). A number is signed by EFI_IFR_DISPLAY 00; a list has
-- EFI_IFR_UNIQUE_SET 01 and EFI_IFR_NO_EMPTY_SET 02.
abbrev pub type_of : Node → Option FieldType
type_of q =
    let flags = field_in FLAGGED_QUESTION "Flags" q.op in
    let offered = map option_value (options q) in
    let list_flags = field ORDERED_LIST "Flags" q.op in
    if is CHECKBOX q then Some a_flag
    else if is NUMERIC q then Some (a_number (bit_and flags 0x30 == 0) (number_width flags) (bound 0 q) (bound 1 q))
    else if is ONE_OF q then Some (a_choice (number_width flags) offered)
    else if is STRING q then Some (a_text (field STRING "MinSize" q.op) (field STRING "MaxSize" q.op))
    else if is PASSWORD q then Some (a_text (field PASSWORD "MinSize" q.op) (field PASSWORD "MaxSize" q.op))
    else if not (is ORDERED_LIST q) then None
    else Some (a_list (element_width q) (field ORDERED_LIST "MaxContainers" q.op)
    (has_flag list_flags 0x01) (has_flag list_flags 0x02) offered)

abbrev pub width_of : FieldType → ℕ
width_of a_flag = 1
width_of (a_number signed width minimum maximum) = width
width_of (a_choice width offered) = width
width_of (a_text minimum maximum) = 2 * maximum
width_of (a_list width most unique some offered) = most * width

-- ---- where it holds it: a field, bytes of a buffer store; where its store id is that of no buffer store, it has none

pub record Field : Type 0 where
  pub store : ℕ
  pub offset : ℕ
  pub width : ℕ

abbrev pub field_of : List Node → Node → Option Field
field_of ns q =
    let store = field_in QUESTION_HEADER "VarStoreId" q.op in
    let offset = field_in QUESTION_HEADER "VarOffset" q.op in
    if store == 0 || is_none (size_of ns store) then None
    else option_map (λ t. record { store = store; offset = offset; width = width_of t }) (type_of q)

abbrev pub questions : List Node → List Node
questions ns = filter is_question ns

-- the question of an id, which is not 0
abbrev pub question_with : List Node → ℕ → Option Node
question_with ns id = if id == 0 then None else find (λ q. question_id q == id) (questions ns)

abbrev pub is_same_field : Field → Field → Bool
is_same_field f g = g.store == f.store && g.offset == f.offset && g.width == f.width

-- Two fields have a byte in common.
abbrev pub meets : Field → Field → Bool
meets f g =
    f.store == g.store && nat_lt 0 f.width && nat_lt 0 g.width
    && nat_lt f.offset (g.offset + g.width) && nat_lt g.offset (f.offset + f.width)

abbrev pub field_bytes : Stores → Field → Option (List ℕ)
field_bytes stores f = option_map (λ bytes. slice_range bytes f.offset (f.offset + f.width)) (bytes_of stores f.store)

abbrev pub with_field : Stores → Option Field → List ℕ → Stores
with_field stores None bytes = stores
with_field stores (Some f) bytes = with_bytes stores f.store f.offset bytes

-- ---- answers

-- the numbers of `width` bytes each
abbrev pub numbers_from : ℕ → ℕ → List ℕ → List ℕ
numbers_from zero width bytes = []
numbers_from (suc n) width bytes = little_number width bytes ∷ numbers_from n width (drop width bytes)

-- those before the first that is 0, and their bytes
abbrev pub items : ℕ → List ℕ → List ℕ
items width bytes = take_while (λ n. not (n == 0)) (numbers_from (length bytes / width) width bytes)

abbrev pub bytes_of_items : ℕ → List ℕ → List ℕ
bytes_of_items width bytes = take (length (items width bytes) * width) bytes

-- A checkbox is true where it is not 0, a number has no sign, a text ends at its first zero unit, a list is all bytes.
abbrev pub answer_in : FieldType → List ℕ → Value
answer_in a_flag bytes = boolean (not (slice_index bytes 0 == 0))
answer_in (a_number signed width minimum maximum) bytes = natural (little_number width bytes)
answer_in (a_choice width offered) bytes = natural (little_number width bytes)
answer_in (a_text minimum maximum) bytes = values.text (bytes_of_items 2 bytes)
answer_in (a_list width most unique some offered) bytes = buffer bytes

abbrev pub answer_of : List Node → Stores → Node → Value
answer_of ns stores q =
    let held = option_and_then (field_bytes stores) (field_of ns q) in
    unwrap_or (option_and_then (λ bytes. option_map (λ t. answer_in t bytes) (type_of q)) held) undefined

-- the answer of the question of an id, whether it is hidden or not
abbrev pub answers : List Node → Stores → ℕ → Value
answers ns stores id = unwrap_or (option_map (answer_of ns stores) (question_with ns id)) undefined

-- ---- by what a command is denied (own rule)

pub data DenialKind : Type 0 where
  DisableIf SuppressIf GrayOutIf Locked ReadOnly Outside : DenialKind
  Kind Range NoOption Length Repeat EmptySet BadText : DenialKind
  InconsistentIf NoSubmitIf : DenialKind
  NoQuestion NotRef NotButton NoRow NoBack DeepHistory NoStore NoField Password : DenialKind

-- ---- what is offered to a question: a number and the bits of one; a text in UTF-8 and one in units; the values of a
-- list, and the elements of one; and the bytes of a whole field, which are read as what the field holds

pub data Offer : Type 0 where
  whole : (n : ℤ) → Offer
  raw : (bits : ℕ) → Offer
  utf8 : (bytes : List ℕ) → Offer
  units : (bytes : List ℕ) → Offer
  listed : (ns : List ℕ) → Offer
  elements : (bytes : List ℕ) → Offer
  in_field : (bytes : List ℕ) → Offer

abbrev pub read_as : FieldType → Offer → Offer
read_as (a_text minimum maximum) (in_field bytes) = units bytes
read_as (a_list width most unique some offered) (in_field bytes) = elements bytes
read_as t (in_field bytes) = raw (little_number (width_of t) bytes)
read_as t offer = offer

-- ---- what it takes: the bytes that an offer gives in its field, or why it does not fit

-- the number that the bits of `width` bytes are, signed as two's complement; and the bits of a number, if it has some
abbrev pub number_of_bits : Bool → ℕ → ℕ → ℤ
number_of_bits signed width bits =
    if signed && nat_le (256 ^ width / 2) bits then pos bits -ℤ pos (256 ^ width) else pos bits

abbrev pub bits_of : Bool → ℕ → ℤ → Option ℕ
bits_of signed width (pos n) =
    if nat_lt n (if signed then 256 ^ width / 2 else 256 ^ width) then Some n else None
bits_of signed width (negsuc n) =
    if signed && nat_lt n (256 ^ width / 2) then Some (256 ^ width - suc n) else None

-- a number in its bounds, where all three have a sign or none has
abbrev pub number_fit : Bool → ℕ → ℕ → ℕ → Option ℕ → Result (List ℕ) DenialKind
number_fit signed width minimum maximum None = Err Range
number_fit signed width minimum maximum (Some bits) =
    let number = number_of_bits signed width in
    if int_lt (number bits) (number minimum) || int_lt (number maximum) (number bits) then Err Range
    else Ok (little_bytes width bits)

abbrev pub choice_fit : ℕ → List ℕ → ℤ → Result (List ℕ) DenialKind
choice_fit width offered (pos n) = if is_among n offered then Ok (little_bytes width n) else Err NoOption
choice_fit width offered (negsuc n) = Err NoOption

-- a flag is 0 or 1
abbrev pub flag_fit : ℤ → Result (List ℕ) DenialKind
flag_fit (pos n) = if nat_lt n 2 then Ok (n ∷ []) else Err Range
flag_fit (negsuc n) = Err Range

-- bytes with zeros behind them
abbrev pub filled : ℕ → List ℕ → List ℕ
filled size bytes = bytes ++ replicate (size - length bytes) 0

abbrev pub text_fit : ℕ → ℕ → List ℕ → Result (List ℕ) DenialKind
text_fit minimum maximum us =
    if nat_lt (length us) minimum || nat_lt maximum (length us) then Err Length
    else Ok (filled (2 * maximum) (flat_map (little_bytes 2) us))

-- the first element that may not be: it is 0, or no option has it, or it comes again
abbrev pub element_denial : Bool → List ℕ → List ℕ → List ℕ → Option DenialKind
element_denial unique offered before [] = None
element_denial unique offered before (n ∷ ns) =
    if n == 0 || not (is_among n offered) then Some NoOption
    else if unique && is_among n before then Some Repeat
    else element_denial unique offered (before ++ n ∷ []) ns

abbrev pub list_fit : ℕ → ℕ → Bool → Bool → List ℕ → List ℕ → Result (List ℕ) DenialKind
list_fit width most unique some offered ns =
    if nat_lt most (length ns) then Err Length
    else if some && length ns == 0 then Err EmptySet
    else unwrap_or (option_map (λ kind. Err kind) (element_denial unique offered [] ns))
    (Ok (filled (most * width) (flat_map (little_bytes width) ns)))

-- UTF-8 of characters that are a unit each, which is not 0
abbrev pub is_text : List ℕ → Bool
is_text bytes = is_utf8 bytes && not (list_any (λ c. c == 0 || nat_lt 0xffff c) (chars bytes))

abbrev pub fit : FieldType → Offer → Result (List ℕ) DenialKind
fit a_flag (whole n) = flag_fit n
fit a_flag (raw bits) = Ok ((if bits == 0 then 0 else 1) ∷ [])
fit (a_number signed width minimum maximum) (whole n) =
    number_fit signed width minimum maximum (bits_of signed width n)
fit (a_number signed width minimum maximum) (raw bits) =
    number_fit signed width minimum maximum (if nat_lt bits (256 ^ width) then Some bits else None)
fit (a_choice width offered) (whole n) = choice_fit width offered n
fit (a_choice width offered) (raw bits) = choice_fit width offered (pos bits)
fit (a_text minimum maximum) (utf8 bytes) =
    if is_text bytes then text_fit minimum maximum (chars bytes) else Err BadText
fit (a_text minimum maximum) (units bytes) = text_fit minimum maximum (items 2 bytes)
fit (a_list width most unique some offered) (listed ns) = list_fit width most unique some offered ns
fit (a_list width most unique some offered) (elements bytes) =
    list_fit width most unique some offered (items width bytes)
fit t offer = Err Kind

-- A question without a field takes nothing.
abbrev pub fits : List Node → Node → Offer → Result (List ℕ) DenialKind
fits ns q offer =
    let taken = option_map (λ t. fit t (read_as t offer)) (type_of q) in
    if is_none (field_of ns q) then Err Kind else unwrap_or taken (Err Kind)

-- the values of options that an offer names
abbrev pub values_in : FieldType → Offer → List ℕ
values_in (a_choice width offered) (whole (pos n)) = n ∷ []
values_in (a_choice width offered) (raw bits) = bits ∷ []
values_in (a_list width most unique some offered) (listed ns) = ns
values_in (a_list width most unique some offered) (elements bytes) = items width bytes
values_in t offer = []

abbrev pub values_offered : Node → Offer → List ℕ
values_offered q offer = unwrap_or (option_map (λ t. values_in t (read_as t offer)) (type_of q)) []

-- ---- defaults

-- what a DEFAULT gives, by its Type: a number (0 to 3); a Boolean (4), true but for 0; the text of a string id (7), if
-- it has one; the value of its expression (8), if a Boolean or a number; the elements of a buffer (0B); else nothing
abbrev pub given : List Node → Stores → (ℕ → Option (List ℕ)) → Node → Node → Option Offer
given ns stores texts q d =
    let kind = field DEFAULT "Type" d.op in
    let number = little_number (type_width kind) (drop 5 d.op) in
    let value = value_of (rules_of ns) (answers ns stores) (question_id q) in
    if nat_lt kind 4 then Some (raw number)
    else if kind == 4 then Some (raw (if number == 0 then 0 else 1))
    else if kind == 7 then option_map units (texts number)
    else if kind == 8 then option_and_then (λ ms. option_map raw (as_number (value ms))) (default_expression d)
    else if kind == 0x0b then Some (elements (bytes_of_items (element_width q) (drop 5 d.op)))
    else None

-- what flags give for the standard class 0 and the manufacturing class 1: EFI_IFR_OPTION_DEFAULT, or _DEFAULT_MFG, of
-- the first option of a ONE_OF that has it, whatever guards it; EFI_IFR_CHECKBOX_DEFAULT, or _DEFAULT_MFG
abbrev pub flagged : Node → ℕ → Option Offer
flagged q class =
    let option_flag = if class == 0 then 0x10 else 0x20 in
    let is_default : Node → Bool = λ o. has_flag (field ONE_OF_OPTION "Flags" o.op) option_flag in
    if nat_lt 1 class then None
    else if is ONE_OF q then option_map (λ o. raw (option_value o)) (find is_default (options q))
    else if not (is CHECKBOX q) then None
    else if has_flag (field CHECKBOX "Flags" q.op) (if class == 0 then 0x01 else 0x02) then Some (raw 1) else None

-- The first DEFAULT of the class by place decides, even where it gives nothing; flags are asked where there is none.
abbrev pub default_of : List Node → Stores → (ℕ → Option (List ℕ)) → Node → ℕ → Option Offer
default_of ns stores texts q class =
    let of_class : Node → Bool = λ n. is_a a_default n.op && field DEFAULT "DefaultId" n.op == class in
    unwrap_or (option_map (given ns stores texts q) (first (in_question of_class q))) (flagged q class)
