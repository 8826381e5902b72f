-- What a question takes as its value, and which bytes of its field this gives (own rule).
use Rattle.std.specs.Prelude.{ℕ, ◌-◌, ◌*◌, ◌/◌, ◌^◌, ◌==◌, Bool, ◌||◌, ◌&&◌, nat_lt, nat_le, not, if◌then◌else◌, ℤ, pos, negsuc, ◌-ℤ◌, int_lt, suc, Option, Some, None, is_some, option_and_then, Result, Ok, Err, List, [], ◌∷◌, ◌++◌, length, chars}
use Rattle.std.specs.List.{list_any, find}
use Rattle.std.specs.Str.{is_utf8}
use Rattle.byteorder.specs.Endian.{little_number, little_bytes}
use Rattle.hii_values.specs.FieldTypes.{FieldType, checkbox, numeric, one_of, text, ordered_list}
use Rattle.hii_values.specs.Items.{items_in, spelled, filled}
use Rattle.hii_values.specs.declared.denial.DenialKind.{DenialKind}
use Rattle.hii_values.specs.declared.denial.DenialKind.TheVariants.{Kind, Range, NoOption, Length, Repeat, EmptySet, BadText}

-- a value that is offered
pub data Offer : Type 0 where
  -- a number
  whole : (n : ℤ) → Offer
  -- the bits of a number
  raw : (bits : ℕ) → Offer
  -- a text in UTF-8
  utf8 : (bytes : List ℕ) → Offer
  -- a text in units of two bytes
  units : (bytes : List ℕ) → Offer
  -- a list of numbers
  listed : (ns : List ℕ) → Offer
  -- a list as it stands in a field
  elements : (bytes : List ℕ) → Offer
  -- the bytes of a whole field
  field : (bytes : List ℕ) → Offer

-- the bytes of a field are read as what the field holds
abbrev pub field_as : FieldType → List ℕ → Offer
field_as checkbox bytes = raw (little_number 1 bytes)
field_as (numeric signed width minimum maximum) bytes = raw (little_number width bytes)
field_as (one_of width values) bytes = raw (little_number width bytes)
field_as (text minimum maximum) bytes = units bytes
field_as (ordered_list width most unique some values) bytes = elements bytes

abbrev pub read_as : FieldType → Offer → Offer
read_as t (field bytes) = field_as t bytes
read_as t offer = offer

-- A checkbox takes the numbers 0 and 1.
abbrev pub checkbox_number : ℤ → Result (List ℕ) DenialKind
checkbox_number (pos n) = if n == 0 then Ok (0 ∷ []) else if n == 1 then Ok (1 ∷ []) else Err Range
checkbox_number (negsuc n) = Err Range

abbrev pub checkbox_bits : ℕ → Result (List ℕ) DenialKind
checkbox_bits bits = Ok ((if bits == 0 then 0 else 1) ∷ [])

-- the number that the bits of `width` bytes are: with a sign their two's complement
abbrev pub number_of_bits : Bool → ℕ → ℕ → ℤ
number_of_bits signed width bits =
    if signed && nat_le (256 ^ width / 2) bits then pos bits -ℤ pos (256 ^ width) else pos bits

-- the bits of `width` bytes that are a number, where there are some
abbrev pub bits_of : Bool → ℕ → ℤ → Option ℕ
bits_of signed width (pos n) =
    if nat_lt n (if signed then 256 ^ width / 2 else 256 ^ width) then Some n else None
bits_of signed width (negsuc n) =
    if signed && nat_lt n (256 ^ width / 2) then Some (256 ^ width - suc n) else None

abbrev pub fitting_bits : ℕ → ℕ → Option ℕ
fitting_bits width bits = if nat_lt bits (256 ^ width) then Some bits else None

-- A numeric question takes what is in its bounds; all three numbers are read alike.
abbrev pub numeric_bytes : Bool → ℕ → ℕ → ℕ → Option ℕ → Result (List ℕ) DenialKind
numeric_bytes signed width minimum maximum None = Err Range
numeric_bytes signed width minimum maximum (Some bits) =
    if int_lt (number_of_bits signed width bits) (number_of_bits signed width minimum)
    || int_lt (number_of_bits signed width maximum) (number_of_bits signed width bits)
    then Err Range else Ok (little_bytes width bits)

-- whether an option has a value
abbrev pub is_offered : List ℕ → ℕ → Bool
is_offered values n = list_any (λ value. value == n) values

-- the value of an option that a number is; no option has a negative value
abbrev pub offered : List ℕ → ℤ → Option ℕ
offered values (pos n) = if is_offered values n then Some n else None
offered values (negsuc n) = None

abbrev pub chosen_bytes : ℕ → Option ℕ → Result (List ℕ) DenialKind
chosen_bytes width None = Err NoOption
chosen_bytes width (Some value) = Ok (little_bytes width value)

-- Characters are counted as units.
abbrev pub text_bytes : ℕ → ℕ → List ℕ → Result (List ℕ) DenialKind
text_bytes minimum maximum us =
    if nat_lt (length us) minimum || nat_lt maximum (length us) then Err Length
    else Ok (filled (2 * maximum) (spelled 2 us))

-- a character that is no unit of a text, or ends it
abbrev pub is_bad_character : ℕ → Bool
is_bad_character c = c == 0 || nat_lt 0xffff c

abbrev pub is_text : List ℕ → Bool
is_text bytes = is_utf8 bytes && not (list_any is_bad_character (chars bytes))

-- an element of a list, with those before it
pub record Element : Type 0 where
  pub before : List ℕ
  pub number : ℕ

abbrev pub elements_behind : List ℕ → List ℕ → List Element
elements_behind before [] = []
elements_behind before (n ∷ ns) =
    record { before = before; number = n } ∷ elements_behind (before ++ n ∷ []) ns

-- Why an element may not be: it is 0 or no option has it, or it comes again where none may come twice.
abbrev pub denial_of : List ℕ → Bool → Element → Option DenialKind
denial_of values unique e =
    if e.number == 0 || not (is_offered values e.number) then Some NoOption
    else if unique && list_any (λ earlier. earlier == e.number) e.before then Some Repeat
    else None

-- the first element that may not be tells why
abbrev pub element_denial : List ℕ → Bool → List ℕ → Option DenialKind
element_denial values unique ns =
    option_and_then (denial_of values unique)
    (find (λ e. is_some (denial_of values unique e)) (elements_behind [] ns))

abbrev pub list_denial : ℕ → Bool → Bool → List ℕ → List ℕ → Option DenialKind
list_denial most unique some values ns =
    if nat_lt most (length ns) then Some Length
    else if some && (length ns == 0) then Some EmptySet
    else element_denial values unique ns

abbrev pub bytes_unless : Option DenialKind → List ℕ → Result (List ℕ) DenialKind
bytes_unless None bytes = Ok bytes
bytes_unless (Some denial) bytes = Err denial

abbrev pub list_bytes : ℕ → ℕ → Bool → Bool → List ℕ → List ℕ → Result (List ℕ) DenialKind
list_bytes width most unique some values ns =
    bytes_unless (list_denial most unique some values ns) (filled (most * width) (spelled width ns))

-- what a field of a type takes, and the new bytes
abbrev pub fits_type : FieldType → Offer → Result (List ℕ) DenialKind
fits_type checkbox (whole n) = checkbox_number n
fits_type checkbox (raw bits) = checkbox_bits bits
fits_type (numeric signed width minimum maximum) (whole n) =
    numeric_bytes signed width minimum maximum (bits_of signed width n)
fits_type (numeric signed width minimum maximum) (raw bits) =
    numeric_bytes signed width minimum maximum (fitting_bits width bits)
fits_type (one_of width values) (whole n) = chosen_bytes width (offered values n)
fits_type (one_of width values) (raw bits) = chosen_bytes width (offered values (pos bits))
fits_type (text minimum maximum) (utf8 bytes) =
    if is_text bytes then text_bytes minimum maximum (chars bytes) else Err BadText
fits_type (text minimum maximum) (units bytes) = text_bytes minimum maximum (items_in 2 bytes)
fits_type (ordered_list width most unique some values) (listed ns) =
    list_bytes width most unique some values ns
fits_type (ordered_list width most unique some values) (elements bytes) =
    list_bytes width most unique some values (items_in width bytes)
fits_type t offer = Err Kind

-- the values of options that an offer names: a number, or the elements of a list
abbrev pub number_named : ℤ → List ℕ
number_named (pos n) = n ∷ []
number_named (negsuc n) = []

abbrev pub values_in : FieldType → Offer → List ℕ
values_in (one_of width values) (whole n) = number_named n
values_in (one_of width values) (raw bits) = bits ∷ []
values_in (ordered_list width most unique some values) (listed ns) = ns
values_in (ordered_list width most unique some values) (elements bytes) = items_in width bytes
values_in t offer = []
