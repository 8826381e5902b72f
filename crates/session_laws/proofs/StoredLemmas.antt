-- Stores of a session hold bytes, and so numbers that questions answer have at most 64 bits.
use Rattle.std.proofs.Common.{◌≡◌, ◌==◌, ℕ, zero, suc, ◌+◌, ◌-◌, ◌*◌, ◌/◌, ◌%◌, ◌<◌, ◌≤◌, ◌^◌, Bool, true, false, Option, Some, None, Result, Ok, Err, List, [], ◌∷◌, ◌++◌, length, take, drop, map, replicate, refl, ◌∙◌, arith, lit<}
use Rattle.std.specs.Prelude.{◌&&◌, ◌||◌, if◌then◌else◌, bit_and, chars, int_lt, is_some, nat_lt, not, option_map, option_and_then, slice_range, IfSome, pos, negsuc, ℤ, ⊤}
use Rattle.std.specs.List.{AllByRecursion, find, list_any}
use Rattle.std.proofs.lemmas.List.{get_or-drop}
use Rattle.std.specs.Int.{byte_at, bytes_low_first}
use Rattle.byteorder.specs.Endian.{little_bytes}
use Rattle.byteorder.specs.Numbers.{little_from-lt}
use Rattle.hii_bytes.specs.Numbers.{AreBytes}
use Rattle.ifr_opcodes.specs.Fields.{display, has_no_empty_set, is_unique_set, numeric_flags, numeric_maximum, numeric_minimum, numeric_width, one_of_flags, one_of_width, ordered_list_containers, password_maximum, password_minimum, string_maximum, string_minimum}
use Rattle.ifr_opcodes.specs.Forest.{Node}
use Rattle.ifr_opcodes.proofs.SizeLemmas.{number_widths}
use Rattle.browser_rules.specs.Opcodes.{number_width}
use Rattle.ifr_opcodes.specs.Opcode.{number}
use Rattle.ifr_opcodes.specs.declared.codes.TheConstants.{CHECKBOX, NUMERIC, ONE_OF, STRING, PASSWORD, ORDERED_LIST}
use Rattle.ifr_expr.specs.Values.{undefined}
use Rattle.ifr_nodes.specs.Nodes.{options}
use Rattle.hii_varstore.specs.Stores.{Store, StoreMap, bytes_of, bytes_of_field, overwritten, store_with, with_bytes}
use Rattle.hii_varstore.proofs.WriteLemmas.{shape_after}
use Rattle.hii_values.specs.Answers.{answer_in}
use Rattle.hii_values.specs.Denials.{has_text}
use Rattle.hii_values.specs.FieldTypes.{FieldType, checkbox, numeric, one_of, text, ordered_list, size_of_type}
use Rattle.hii_values.specs.Inputs.{Element, Offer, whole, raw, utf8, units, listed, elements, field, fits_type, read_as, elements_behind, is_offered, is_text, number_of_bits, checkbox_number, checkbox_bits, bits_of, fitting_bits, numeric_bytes, offered, chosen_bytes, text_bytes, bytes_unless, denial_of, element_denial, list_denial, list_bytes}
use Rattle.hii_values.specs.Items.{filled, items_in, spelled}
use Rattle.hii_values.specs.Types.{element_width, is_signed, option_values, type_of}
use Rattle.hii_values.specs.declared.denial.DenialKind.{DenialKind}
use Rattle.hii_values.specs.declared.denial.DenialKind.TheVariants.{BadText, EmptySet, Length, NoOption, Range, Repeat}
use Rattle.hii_questions.specs.Answers.{answers, answer_of, value_of_bytes, value_of_field}
use Rattle.hii_questions.specs.Changes.{with_field}
use Rattle.hii_questions.specs.Fields.{Field, field_of, question_with}
use Rattle.hii_questions.specs.Fits.{fits, fits_field}
use Rattle.rules_laws.specs.laws.Opcodes.{IsSmall}
use Rattle.session_laws.specs.laws.Session.{AreStored}

-- ---- bytes

joined : (xs ys : List ℕ) → AreBytes xs → AreBytes ys → AreBytes (xs ++ ys)
joined [] ys front back k = back k
joined (x ∷ xs) ys front back zero = front 0
joined (x ∷ xs) ys front back (suc k) = joined xs ys (λ i. front (suc i)) back k

pub front_of : (n : ℕ) (xs : List ℕ) → AreBytes xs → AreBytes (take n xs)
front_of zero xs are k = lit< tt
front_of (suc n) [] are k = lit< tt
front_of (suc n) (x ∷ xs) are zero = are 0
front_of (suc n) (x ∷ xs) are (suc k) = front_of n xs (λ i. are (suc i)) k

pub behind : (n : ℕ) (xs : List ℕ) → AreBytes xs → AreBytes (drop n xs)
behind n xs are k = rw (get_or-drop n xs k 0) (are (n + k))

zeros : (n : ℕ) → AreBytes (replicate n 0)
zeros zero k = lit< tt
zeros (suc n) zero = lit< tt
zeros (suc n) (suc k) = zeros n k

one_byte : (b : ℕ) → b < 256 → AreBytes (b ∷ [])
one_byte b less zero = less
one_byte b less (suc k) = lit< tt

rest_small : (n : ℕ) → n % 256 < 256
rest_small n = omega arith

byte_small : (i n : ℕ) → byte_at i n < 256
byte_small zero n = rest_small n
byte_small (suc i) n = rest_small (n / 256 ^ suc i)

little : (i n x : ℕ) → AreBytes (bytes_low_first i n x)
little i zero x k = lit< tt
little i (suc n) x zero = byte_small i x
little i (suc n) x (suc k) = little (suc i) n x k

each_little : (width : ℕ) (ns : List ℕ) → AreBytes (spelled width ns)
each_little width [] k = lit< tt
each_little width (n ∷ ns) k = joined (little_bytes width n) (spelled width ns) (little 0 width n) (each_little width ns) k

all_filled : (size width : ℕ) (ns : List ℕ) → AreBytes (filled size (spelled width ns))
all_filled size width ns = joined (spelled width ns) (replicate (size - length (spelled width ns)) 0) (each_little width ns) (zeros (size - length (spelled width ns)))

-- ---- what a question takes: bytes, or a denial that is told without a text

abbrev pub IsPlain : Result (List ℕ) DenialKind → Type 0
IsPlain (Ok bytes) = AreBytes bytes
IsPlain (Err kind) = has_text kind ≡ false

abbrev IsPlainDenial : Option DenialKind → Type 0
IsPlainDenial None = ⊤
IsPlainDenial (Some kind) = has_text kind ≡ false

pub either : {X : Type 0} (P : X → Type 0) (b : Bool) (x y : X) → P x → P y → P (if b then x else y)
either P true x y first second = first
either P false x y first second = second

plain_flag : (n : ℤ) → IsPlain (checkbox_number n)
plain_flag (pos n) =
    either IsPlain (n == 0) (Ok (0 ∷ [])) (if n == 1 then Ok (1 ∷ []) else Err Range) (one_byte 0 (lit< tt)) (either IsPlain (n == 1) (Ok (1 ∷ [])) (Err Range) (one_byte 1 (lit< tt)) refl)
plain_flag (negsuc n) = refl

plain_bits : (bits : ℕ) → IsPlain (checkbox_bits bits)
plain_bits bits = one_byte (if bits == 0 then 0 else 1) (either (λ (b : ℕ). b < 256) (bits == 0) 0 1 (lit< tt) (lit< tt))

plain_number : (signed : Bool) (width minimum maximum : ℕ) (bits : Option ℕ) → IsPlain (numeric_bytes signed width minimum maximum bits)
plain_number signed width minimum maximum None = refl
plain_number signed width minimum maximum (Some bits) =
    either IsPlain (int_lt (number_of_bits signed width bits) (number_of_bits signed width minimum) || int_lt (number_of_bits signed width maximum) (number_of_bits signed width bits)) (Err Range) (Ok (little_bytes width bits))
    refl (little 0 width bits)

plain_choice : (width : ℕ) (chosen : Option ℕ) → IsPlain (chosen_bytes width chosen)
plain_choice width None = refl
plain_choice width (Some value) = little 0 width value

plain_text : (minimum maximum : ℕ) (us : List ℕ) → IsPlain (text_bytes minimum maximum us)
plain_text minimum maximum us =
    either IsPlain (nat_lt (length us) minimum || nat_lt maximum (length us)) (Err Length) (Ok (filled (2 * maximum) (spelled 2 us))) refl (all_filled (2 * maximum) 2 us)

plain_then : (deny : Element → Option DenialKind) (o : Option Element) → ((e : Element) → IsPlainDenial (deny e)) → IsPlainDenial (option_and_then deny o)
plain_then deny None each = tt
plain_then deny (Some e) each = each e

plain_element : (values : List ℕ) (unique : Bool) (e : Element) → IsPlainDenial (denial_of values unique e)
plain_element values unique e =
    let again = unique && list_any (λ (earlier : ℕ). earlier == e.number) e.before in
    either IsPlainDenial (e.number == 0 || not (is_offered values e.number)) (Some NoOption) (if again then Some Repeat else None) refl (either IsPlainDenial again (Some Repeat) None refl tt)

plain_list : (width most : ℕ) (unique some : Bool) (values ns : List ℕ) → IsPlain (list_bytes width most unique some values ns)
plain_list width most unique some values ns =
    unless (list_denial most unique some values ns)
    (either IsPlainDenial (nat_lt most (length ns)) (Some Length) (if some && (length ns == 0) then Some EmptySet else element_denial values unique ns) refl
    (either IsPlainDenial (some && (length ns == 0)) (Some EmptySet) (element_denial values unique ns) refl
    (plain_then (denial_of values unique) (find (λ (e : Element). is_some (denial_of values unique e)) (elements_behind [] ns)) (plain_element values unique))))
  where
    unless : (o : Option DenialKind) → IsPlainDenial o → IsPlain (bytes_unless o (filled (most * width) (spelled width ns)))
    unless None plain = all_filled (most * width) width ns
    unless (Some why) plain = plain

plain_type : (t : FieldType) (offer : Offer) → IsPlain (fits_type t offer)
plain_type checkbox (whole n) = plain_flag n
plain_type checkbox (raw bits) = plain_bits bits
plain_type checkbox (utf8 bytes) = refl
plain_type checkbox (units bytes) = refl
plain_type checkbox (listed ns) = refl
plain_type checkbox (elements bytes) = refl
plain_type checkbox (field bytes) = refl
plain_type (numeric signed width minimum maximum) (whole n) = plain_number signed width minimum maximum (bits_of signed width n)
plain_type (numeric signed width minimum maximum) (raw bits) = plain_number signed width minimum maximum (fitting_bits width bits)
plain_type (numeric signed width minimum maximum) (utf8 bytes) = refl
plain_type (numeric signed width minimum maximum) (units bytes) = refl
plain_type (numeric signed width minimum maximum) (listed ns) = refl
plain_type (numeric signed width minimum maximum) (elements bytes) = refl
plain_type (numeric signed width minimum maximum) (field bytes) = refl
plain_type (one_of width values) (whole n) = plain_choice width (offered values n)
plain_type (one_of width values) (raw bits) = plain_choice width (offered values (pos bits))
plain_type (one_of width values) (utf8 bytes) = refl
plain_type (one_of width values) (units bytes) = refl
plain_type (one_of width values) (listed ns) = refl
plain_type (one_of width values) (elements bytes) = refl
plain_type (one_of width values) (field bytes) = refl
plain_type (text minimum maximum) (whole n) = refl
plain_type (text minimum maximum) (raw bits) = refl
plain_type (text minimum maximum) (utf8 bytes) = either IsPlain (is_text bytes) (text_bytes minimum maximum (chars bytes)) (Err BadText) (plain_text minimum maximum (chars bytes)) refl
plain_type (text minimum maximum) (units bytes) = plain_text minimum maximum (items_in 2 bytes)
plain_type (text minimum maximum) (listed ns) = refl
plain_type (text minimum maximum) (elements bytes) = refl
plain_type (text minimum maximum) (field bytes) = refl
plain_type (ordered_list width most unique some values) (whole n) = refl
plain_type (ordered_list width most unique some values) (raw bits) = refl
plain_type (ordered_list width most unique some values) (utf8 bytes) = refl
plain_type (ordered_list width most unique some values) (units bytes) = refl
plain_type (ordered_list width most unique some values) (listed ns) = plain_list width most unique some values ns
plain_type (ordered_list width most unique some values) (elements bytes) = plain_list width most unique some values (items_in width bytes)
plain_type (ordered_list width most unique some values) (field bytes) = refl

plain_field : (t : Option FieldType) (f : Option Field) (offer : Offer) → IsPlain (fits_field t f offer)
plain_field None f offer = refl
plain_field (Some t) None offer = refl
plain_field (Some t) (Some f) offer = plain_type t (read_as t offer)

pub plain_fits : (ns : List Node) (q : Node) (offer : Offer) → IsPlain (fits ns q offer)
plain_fits ns q offer = plain_field (type_of q) (field_of ns q) offer

-- ---- stores

abbrev pub HoldBytes : List Store → Type 0
HoldBytes stores = AllByRecursion (λ (s : Store). AreBytes s.bytes) stores

over_bytes : (old new : List ℕ) (offset : ℕ) → AreBytes old → AreBytes new → AreBytes (overwritten old offset new)
over_bytes old new offset are news =
    front_of (length old) (take offset old ++ (new ++ drop (offset + length new) old))
    (joined (take offset old) (new ++ drop (offset + length new) old) (front_of offset old are) (joined new (drop (offset + length new) old) news (behind (offset + length new) old are)))

put_bytes : (id offset : ℕ) (new : List ℕ) (ss : List Store) → HoldBytes ss → AreBytes new → HoldBytes (map (λ (s : Store). if s.id == id then store_with s offset new else s) ss)
put_bytes id offset new [] are news = tt
put_bytes id offset new (s ∷ ss) are news =
    (either (λ (s : Store). AreBytes s.bytes) (s.id == id) (store_with s offset new) s (over_bytes s.bytes new offset are.0 news) are.0, put_bytes id offset new ss are.1 news)

written_bytes : (m : StoreMap) (id offset : ℕ) (new : List ℕ) → HoldBytes m.stores → AreBytes new → HoldBytes (with_bytes m id offset new).stores
unfolding with_bytes
written_bytes m id offset new are news = put_bytes id offset new m.stores are news

-- A field that takes bytes leaves stores that the package declares.
pub put_stored : (ifr : List ℕ) (m : StoreMap) (f : Option Field) (new : List ℕ) → AreStored ifr m → AreBytes new → AreStored ifr (with_field m f new)
put_stored ifr m None new stored news = stored
put_stored ifr m (Some f) new stored news = record {
  laid = shape_after m f.store f.offset new ∙ stored.laid;
  are_bytes = written_bytes m f.store f.offset new stored.are_bytes news;
}

-- ---- answers

abbrev AreBytesIn : Option (List ℕ) → Type 0
AreBytesIn o = IfSome o AreBytes

found_bytes : (ss : List Store) (test : Store → Bool) → HoldBytes ss → AreBytesIn (option_map (λ (s : Store). s.bytes) (find test ss))
found_bytes [] test are = tt
found_bytes (s ∷ ss) test are =
    either (λ (o : Option Store). AreBytesIn (option_map (λ (s : Store). s.bytes) o)) (test s) (Some s) (find test ss) are.0 (found_bytes ss test are.1)

part_bytes : (o : Option (List ℕ)) (offset end : ℕ) → AreBytesIn o → AreBytesIn (option_map (λ (bytes : List ℕ). slice_range bytes offset end) o)
part_bytes None offset end are = tt
part_bytes (Some bytes) offset end are = front_of (end - offset) (drop offset bytes) (behind offset bytes are)

field_holds : (m : StoreMap) (id offset width : ℕ) → HoldBytes m.stores → AreBytesIn (bytes_of_field m id offset width)
field_holds m id offset width are = part_bytes (bytes_of m id) offset (offset + width) (found_bytes m.stores (λ (s : Store). s.id == id) are)

-- The numbers of a type have at most eight bytes.
abbrev IsNarrow : Option FieldType → Type 0
IsNarrow (Some (numeric signed width minimum maximum)) = 256 ^ width ≤ 2 ^ 64
IsNarrow (Some (one_of width values)) = 256 ^ width ≤ 2 ^ 64
IsNarrow _ = ⊤

narrow_flags : (flags : ℕ) → 256 ^ number_width flags ≤ 2 ^ 64
narrow_flags flags =
    rw (number_widths flags)
    (either Fits (bit_and flags 3 == 0) 1 (if bit_and flags 3 == 1 then 2 else (if bit_and flags 3 == 2 then 4 else 8)) (omega arith)
    (either Fits (bit_and flags 3 == 1) 2 (if bit_and flags 3 == 2 then 4 else 8) (omega arith) (either Fits (bit_and flags 3 == 2) 4 8 (omega arith) (omega arith))))
  where
    Fits : ℕ → Type 0
    Fits width = 256 ^ width ≤ 2 ^ 64

narrow_type : (q : Node) → IsNarrow (type_of q)
narrow_type q =
    let code = number q.op in
    let its_list : Option FieldType = if code == ORDERED_LIST then Some (ordered_list (element_width q) (ordered_list_containers q.op) (is_unique_set q.op) (has_no_empty_set q.op) (option_values (options q))) else None in
    let password : Option FieldType = if code == PASSWORD then Some (text (password_minimum q.op) (password_maximum q.op)) else its_list in
    let string : Option FieldType = if code == STRING then Some (text (string_minimum q.op) (string_maximum q.op)) else password in
    let choice : Option FieldType = if code == ONE_OF then Some (one_of (one_of_width q.op) (option_values (options q))) else string in
    let its_number : FieldType = numeric (is_signed (display q.op)) (numeric_width q.op) (numeric_minimum q.op) (numeric_maximum q.op) in
    either IsNarrow (code == CHECKBOX) (Some checkbox) (if code == NUMERIC then Some its_number else choice) tt
    (either IsNarrow (code == NUMERIC) (Some its_number) choice (narrow_flags (numeric_flags q.op))
    (either IsNarrow (code == ONE_OF) (Some (one_of (one_of_width q.op) (option_values (options q)))) string (narrow_flags (one_of_flags q.op))
    (either IsNarrow (code == STRING) (Some (text (string_minimum q.op) (string_maximum q.op))) password tt
    (either IsNarrow (code == PASSWORD) (Some (text (password_minimum q.op) (password_maximum q.op))) its_list tt
    (either IsNarrow (code == ORDERED_LIST) (Some (ordered_list (element_width q) (ordered_list_containers q.op) (is_unique_set q.op) (has_no_empty_set q.op) (option_values (options q)))) None tt tt)))))

small_in : (t : FieldType) (bytes : List ℕ) → IsNarrow (Some t) → AreBytes bytes → IsSmall (answer_in t bytes)
small_in checkbox bytes narrow are = tt
small_in (numeric signed width minimum maximum) bytes narrow are = let less = little_from-lt 0 width bytes are in omega (arith, less, narrow)
small_in (one_of width values) bytes narrow are = let less = little_from-lt 0 width bytes are in omega (arith, less, narrow)
small_in (text minimum maximum) bytes narrow are = tt
small_in (ordered_list width most unique some values) bytes narrow are = tt

small_of_bytes : (t : Option FieldType) (bytes : Option (List ℕ)) → IsNarrow t → AreBytesIn bytes → IsSmall (value_of_bytes t bytes)
small_of_bytes None bytes narrow are = tt
small_of_bytes (Some t) None narrow are = tt
small_of_bytes (Some t) (Some bytes) narrow are = either IsSmall (length bytes == size_of_type t) (answer_in t bytes) undefined (small_in t bytes narrow are) tt

small_of_field : (m : StoreMap) (q : Node) (f : Option Field) → HoldBytes m.stores → IsSmall (value_of_field m q f)
small_of_field m q None are = tt
small_of_field m q (Some f) are = small_of_bytes (type_of q) (bytes_of_field m f.store f.offset f.width) (narrow_type q) (field_holds m f.store f.offset f.width are)

pub small_answers : (ns : List Node) (m : StoreMap) (id : ℕ) → HoldBytes m.stores → IsSmall (answers ns m id)
small_answers ns m id are = of_found (question_with ns id)
  where
    of_found : (o : Option Node) → IsSmall (answer_of ns m o)
    of_found None = tt
    of_found (Some q) = small_of_field m q (field_of ns q) are
