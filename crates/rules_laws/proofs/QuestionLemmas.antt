-- What questions hold, where they hold it, what they take and what they answer.
use Rattle.std.proofs.Common.{◌≡◌, ◌==◌, ℕ, zero, suc, ◌+◌, ◌-◌, ◌*◌, ◌/◌, ◌^◌, ◌<◌, ◌≤◌, ℤ, pos, negsuc, Bool, true, false, not, Option, Some, None, Result, Ok, Err, List, [], ◌∷◌, ◌++◌, length, map, drop, replicate, refl, sym, ap, subst, ◌∙◌, arith, inl, inr, length-drop}
use Rattle.std.specs.Prelude.{◌&&◌, ◌||◌, nat_lt, int_lt, is_none, is_some, if◌then◌else◌, filter, option_map, option_and_then, unwrap_or, slice_index, slice_range, chars, bit_and, Contains, IfSome, IsSomeAnd}
use Rattle.std.specs.List.{find, flat_map, list_any}
use Rattle.std.specs.Str.{is_utf8}
use Rattle.std.proofs.lemmas.Bool.{cases_Bool, eqb-true, eq-eqb, le-ltb, ne_eqb}
use Rattle.std.proofs.lemmas.List.{length-take-le}
use Rattle.byteorder.specs.Endian.{little_number, little_bytes}
use Rattle.browser_rules.specs.Opcodes.{a_question, is_a, number_width, type_width}
use Rattle.browser_rules.specs.Nodes as chapter_nodes
use Rattle.browser_rules.specs.Questions as chapter
use Rattle.browser_rules.specs.Values as rules
use Rattle.browser_rules.specs.Words.{first, is_among}
use Rattle.hii_bytes.specs.Faults.{HasNone}
use Rattle.hii_bytes.specs.Numbers.{number_in}
use Rattle.ifr_opcodes.specs.Fields.{question_id, question_store, question_offset, numeric_flags, option_kind, option_value, display_of_flags}
use Rattle.ifr_opcodes.specs.Forest.{Node}
use Rattle.ifr_opcodes.specs.Opcode.{number}
use Rattle.ifr_opcodes.specs.Rows.{row_of, is_question_number}
use Rattle.ifr_opcodes.specs.declared.codes.TheConstants.{CHECKBOX, NUMERIC, ONE_OF, STRING, PASSWORD, ORDERED_LIST}
use Rattle.ifr_opcodes.specs.declared.numbers.Display.TheVariants.{Signed, Unsigned, Hexadecimal}
use Rattle.ifr_nodes.specs.Nodes as node
use Rattle.ifr_nodes.specs.Nodes.{is_question}
use Rattle.hii_varstore.specs.Layout.{size_of}
use Rattle.hii_varstore.specs.code.Ranges.{HasRange}
use Rattle.hii_varstore.specs.StoreNodes.{layout_of}
use Rattle.hii_varstore.specs.Stores.{StoreMap, bytes_of, shape_of}
use Rattle.hii_varstore.proofs.WriteLemmas.{sizes}
use Rattle.hii_values.specs.Answers.{answer_in}
use Rattle.hii_values.specs.FieldTypes.{FieldType, checkbox, numeric, one_of, text, ordered_list, size_of_type}
use Rattle.hii_values.specs.Inputs.{Offer, Element, whole, raw, utf8, units, listed, elements, field, bits_of, bytes_unless, chosen_bytes, checkbox_number, denial_of, elements_behind, fits_type, fitting_bits, is_offered, list_bytes, numeric_bytes, offered, read_as, text_bytes, values_in}
use Rattle.hii_values.specs.Items.{items_in}
use Rattle.hii_values.specs.Types.{element_width, first_kind, is_signed, option_values, type_of, width_of_kind}
use Rattle.hii_values.specs.declared.denial.DenialKind.{DenialKind}
use Rattle.hii_values.specs.declared.denial.DenialKind.TheVariants.{BadText, EmptySet, Length, NoOption, Range, Repeat}
use Rattle.hii_questions.specs.Answers.{answer_of, answers, value_of_bytes, value_of_field}
use Rattle.hii_questions.specs.Changes.{field_bytes, with_field}
use Rattle.hii_questions.specs.Faults.{IsQuestionFault}
use Rattle.hii_questions.specs.Fields.{Field, asked, field_in, field_of, field_width, question_with, questions}
use Rattle.hii_questions.specs.Fits.{fits, fits_field, values_for, values_offered}
use Rattle.hii_questions.proofs.LawLemmas.{finds_questions, holds_fields}
use Rattle.rules_laws.specs.laws.Opcodes.{value_for}
use Rattle.rules_laws.specs.laws.Questions.{HoldsWhole, bytes_or_denial, field_for, offer_for, type_for}
use Rattle.rules_laws.specs.Denials.{kind_for}
use Rattle.rules_laws.specs.laws.Stores.{stores_for}
use Rattle.rules_laws.proofs.NodeLemmas.{is_question_same, options_same, same_filter}
use Rattle.rules_laws.proofs.StoreLemmas.{bytes_same, size_of_same, written_same}

-- ---- what a question holds

width_of_first : (os : List Node) → unwrap_or (option_map (λ (o : Node). type_width (option_kind o.op)) (first os)) 1 ≡ width_of_kind (first_kind os)
width_of_first [] = refl
width_of_first (o ∷ os) = refl

pub element_same : (q : Node) → is_question q ≡ true → chapter.element_width q ≡ element_width q
element_same q is =
    ap (λ (os : List Node). unwrap_or (option_map (λ (o : Node). type_width (option_kind o.op)) (first os)) 1) (options_same q is)
    ∙ width_of_first (node.options q)

pub value_same : (o : Node) → chapter.option_value o ≡ option_value o.op
unfolding number_in
value_same o = refl

values_of_all : (os : List Node) → map chapter.option_value os ≡ option_values os
values_of_all [] = refl
values_of_all (o ∷ os) = rw (value_same o, values_of_all os) refl

offered_same : (q : Node) → is_question q ≡ true → map chapter.option_value (chapter_nodes.options q) ≡ option_values (node.options q)
offered_same q is = ap (map chapter.option_value) (options_same q is) ∙ values_of_all (node.options q)

-- A node of the number of a question is one.
asks : (n code : ℕ) → (n == code) ≡ true → is_question_number code ≡ true → is_question_number n ≡ true
asks n code is told = ap is_question_number (eqb-true n code is) ∙ told

signed_same : (b c : Bool) → b ≡ is_signed (if b then Signed else (if c then Hexadecimal else Unsigned))
signed_same true c = refl
signed_same false true = refl
signed_same false false = refl

alike_number : (s s' : Bool) (w w' n n' x x' : ℕ) → s ≡ s' → w ≡ w' → n ≡ n' → x ≡ x' → Some (chapter.a_number s w n x) ≡ Some (chapter.a_number s' w' n' x')
alike_number s s' w w' n n' x x' a b c d = rw (a, b, c, d) refl

number_holds : (op : List ℕ) →
    let flags = numeric_flags op in
    let width = number_width flags in
    Some (chapter.a_number (bit_and flags 0x30 == 0) width (little_number width (drop (14 + 0 * width) op)) (little_number width (drop (14 + 1 * width) op)))
    ≡ option_map type_for (Some (numeric (is_signed (display_of_flags flags)) (number_width flags) (number_in op 14 (number_width flags)) (number_in op (14 + number_width flags) (number_width flags))))
unfolding number_in
number_holds op =
    let flags = numeric_flags op in
    let w = number_width flags in
    let low : 14 + 0 * w ≡ 14 = omega arith in
    let high : 14 + 1 * w ≡ 14 + w = omega arith in
    alike_number _ _ _ _ _ _ _ _ (signed_same (bit_and flags 0x30 == 0) (bit_and flags 0x30 == 0x20)) refl
    (ap (λ at. little_number w (drop at op)) low) (ap (λ at. little_number w (drop at op)) high)

alike_choice : (w w' : ℕ) (vs vs' : List ℕ) → w ≡ w' → vs ≡ vs' → Some (chapter.a_choice w vs) ≡ Some (chapter.a_choice w' vs')
alike_choice w w' vs vs' a b = rw (a, b) refl

alike_list : (w w' most : ℕ) (unique some : Bool) (vs vs' : List ℕ) → w ≡ w' → vs ≡ vs' → Some (chapter.a_list w most unique some vs) ≡ Some (chapter.a_list w' most unique some vs')
alike_list w w' most unique some vs vs' a b = rw (a, b) refl

-- what is made by a test alike
by_test : {X Y : Type 0} (f : X → Y) (b : Bool) (x y : Option X) (x' y' : Option Y) → (b ≡ true → x' ≡ option_map f x) → (b ≡ false → y' ≡ option_map f y)
    → (if b then x' else y') ≡ option_map f (if b then x else y)
by_test f true x y x' y' here there = here refl
by_test f false x y x' y' here there = there refl

unless_test : {X Y : Type 0} (f : X → Y) (b : Bool) (x : Option X) (x' : Option Y) → (b ≡ true → x' ≡ option_map f x) → (if not b then None else x') ≡ option_map f (if b then x else None)
unless_test f true x x' here = here refl
unless_test f false x x' here = refl

choices_ask : (is_question_number ONE_OF ≡ true) × (is_question_number ORDERED_LIST ≡ true)
unfolding is_question_number row_of
choices_ask = (refl, refl)

pub type_same : (q : Node) → chapter.type_of q ≡ option_map type_for (type_of q)
type_same q =
    by_test type_for (number q.op == CHECKBOX) _ _ _ _ (λ is. refl) (λ other.
    by_test type_for (number q.op == NUMERIC) _ _ _ _ (λ is. number_holds q.op) (λ other.
    by_test type_for (number q.op == ONE_OF) _ _ _ _
    (λ is. alike_choice _ _ _ _ refl (offered_same q (asks (number q.op) ONE_OF is choices_ask.0))) (λ other.
    by_test type_for (number q.op == STRING) _ _ _ _ (λ is. refl) (λ other.
    by_test type_for (number q.op == PASSWORD) _ _ _ _ (λ is. refl) (λ other.
    unless_test type_for (number q.op == ORDERED_LIST) _ _
    (λ is. alike_list _ _ _ _ _ _ _ (element_same q (asks (number q.op) ORDERED_LIST is choices_ask.1)) (offered_same q (asks (number q.op) ORDERED_LIST is choices_ask.1))))))))

pub wide_same : (t : FieldType) → chapter.width_of (type_for t) ≡ size_of_type t
wide_same checkbox = refl
wide_same (numeric signed w mn mx) = refl
wide_same (one_of w vs) = refl
wide_same (text mn mx) = refl
wide_same (ordered_list w most unique some vs) = refl

-- ---- fields

abbrev chapter_field : ℕ → ℕ → Option ℕ → Option chapter.FieldType → Option chapter.Field
chapter_field store offset size t =
    if store == 0 || is_none size then None
    else option_map (λ (t : chapter.FieldType). record { store = store; offset = offset; width = chapter.width_of t }) t

field_alike : (store offset : ℕ) (size : Option ℕ) (t : Option FieldType) → chapter_field store offset size (option_map type_for t) ≡ option_map field_for (field_in store offset size (option_map size_of_type t))
field_alike store offset None t = elim (cases_Bool (store == 0)) [ inl is ↦ rw is refl | inr other ↦ rw other refl ]
field_alike store offset (Some size) None = elim (cases_Bool (store == 0)) [ inl is ↦ rw is refl | inr other ↦ rw other refl ]
field_alike store offset (Some size) (Some t) = elim (cases_Bool (store == 0)) [ inl is ↦ rw is refl | inr other ↦ rw (other, wide_same t) refl ]

pub field_same : (ns : List Node) (q : Node) → chapter.field_of ns q ≡ option_map field_for (field_of ns q)
field_same ns q =
    let store = question_store q.op in
    let offset = question_offset q.op in
    ap (λ (size : Option ℕ). chapter_field store offset size (chapter.type_of q)) (size_of_same ns store)
    ∙ ap (λ (t : Option chapter.FieldType). chapter_field store offset (size_of (layout_of ns) store) t) (type_same q)
    ∙ field_alike store offset (size_of (layout_of ns) store) (type_of q)

pub questions_same : (ns : List Node) → chapter.questions ns ≡ filter is_question ns
questions_same ns = same_filter (λ (n : Node). is_a a_question n.op) is_question ns is_question_same

pub listed_same : (ns : List Node) → questions ns ≡ map (asked ns) (chapter.questions ns)
listed_same ns = ap (map (asked ns)) (sym (questions_same ns))

pub find_among : {X : Type 0} (p r : X → Bool) (xs : List X) → find r (filter p xs) ≡ find (λ x. p x && r x) xs
find_among p r [] = refl
find_among {X = X} p r (x ∷ xs) = elim (cases_Bool (p x)) [
  | inl is ↦ rw is (ap (λ (o : Option X). if r x then Some x else o) (find_among p r xs))
  | inr other ↦ rw other (find_among p r xs)
]

pub by_id_same : (ns : List Node) (id : ℕ) → chapter.question_with ns id ≡ question_with ns id
by_id_same ns id =
    ap (λ (qs : List Node). if id == 0 then None else find (λ (q : Node). question_id q.op == id) qs) (questions_same ns)
    ∙ ap (λ (o : Option Node). if id == 0 then None else o) (find_among is_question (λ (q : Node). question_id q.op == id) ns)

pub read_same : (m : StoreMap) (f : Option Field) → option_and_then (chapter.field_bytes (stores_for m)) (option_map field_for f) ≡ field_bytes m f
read_same m None = refl
read_same m (Some f) = ap (option_map (λ bytes. slice_range bytes f.offset (f.offset + f.width))) (bytes_same m f.store)

pub put_same : (m : StoreMap) (f : Option Field) (bytes : List ℕ) → chapter.with_field (stores_for m) (option_map field_for f) bytes ≡ stores_for (with_field m f bytes)
put_same m None bytes = refl
put_same m (Some f) bytes = written_same m f.store f.offset bytes

-- ---- what a question takes

-- what the chapters say of this, which has no name outside of it
abbrev chapter_read_as : chapter.FieldType → chapter.Offer → chapter.Offer
chapter_read_as (chapter.a_text minimum maximum) (chapter.in_field bytes) = chapter.units bytes
chapter_read_as (chapter.a_list width most unique some offered) (chapter.in_field bytes) = chapter.elements bytes
chapter_read_as t (chapter.in_field bytes) = chapter.raw (little_number (chapter.width_of t) bytes)
chapter_read_as t offer = offer

abbrev chapter_bits_of : Bool → ℕ → ℤ → Option ℕ
chapter_bits_of signed width (pos n) =
    if nat_lt n (if signed then 256 ^ width / 2 else 256 ^ width) then Some n else None
chapter_bits_of signed width (negsuc n) =
    if signed && nat_lt n (256 ^ width / 2) then Some (256 ^ width - suc n) else None

abbrev chapter_number_fit : Bool → ℕ → ℕ → ℕ → Option ℕ → Result (List ℕ) chapter.DenialKind
chapter_number_fit signed width minimum maximum None = Err chapter.Range
chapter_number_fit signed width minimum maximum (Some bits) =
    let number = chapter.number_of_bits signed width in
    if int_lt (number bits) (number minimum) || int_lt (number maximum) (number bits) then Err chapter.Range
    else Ok (little_bytes width bits)

abbrev chapter_choice_fit : ℕ → List ℕ → ℤ → Result (List ℕ) chapter.DenialKind
chapter_choice_fit width offered (pos n) = if is_among n offered then Ok (little_bytes width n) else Err chapter.NoOption
chapter_choice_fit width offered (negsuc n) = Err chapter.NoOption

abbrev chapter_flag_fit : ℤ → Result (List ℕ) chapter.DenialKind
chapter_flag_fit (pos n) = if nat_lt n 2 then Ok (n ∷ []) else Err chapter.Range
chapter_flag_fit (negsuc n) = Err chapter.Range

abbrev chapter_filled : ℕ → List ℕ → List ℕ
chapter_filled size bytes = bytes ++ replicate (size - length bytes) 0

abbrev chapter_text_fit : ℕ → ℕ → List ℕ → Result (List ℕ) chapter.DenialKind
chapter_text_fit minimum maximum us =
    if nat_lt (length us) minimum || nat_lt maximum (length us) then Err chapter.Length
    else Ok (chapter_filled (2 * maximum) (flat_map (little_bytes 2) us))

abbrev chapter_element_denial : Bool → List ℕ → List ℕ → List ℕ → Option chapter.DenialKind
chapter_element_denial unique offered before [] = None
chapter_element_denial unique offered before (n ∷ ns) =
    if n == 0 || not (is_among n offered) then Some chapter.NoOption
    else if unique && is_among n before then Some chapter.Repeat
    else chapter_element_denial unique offered (before ++ n ∷ []) ns

abbrev chapter_list_fit : ℕ → ℕ → Bool → Bool → List ℕ → List ℕ → Result (List ℕ) chapter.DenialKind
chapter_list_fit width most unique some offered ns =
    if nat_lt most (length ns) then Err chapter.Length
    else if some && length ns == 0 then Err chapter.EmptySet
    else unwrap_or (option_map (λ kind. Err kind) (chapter_element_denial unique offered [] ns))
    (Ok (chapter_filled (most * width) (flat_map (little_bytes width) ns)))

abbrev chapter_is_text : List ℕ → Bool
chapter_is_text bytes = is_utf8 bytes && not (list_any (λ c. c == 0 || nat_lt 0xffff c) (chars bytes))

abbrev chapter_fit : chapter.FieldType → chapter.Offer → Result (List ℕ) chapter.DenialKind
chapter_fit chapter.a_flag (chapter.whole n) = chapter_flag_fit n
chapter_fit chapter.a_flag (chapter.raw bits) = Ok ((if bits == 0 then 0 else 1) ∷ [])
chapter_fit (chapter.a_number signed width minimum maximum) (chapter.whole n) =
    chapter_number_fit signed width minimum maximum (chapter_bits_of signed width n)
chapter_fit (chapter.a_number signed width minimum maximum) (chapter.raw bits) =
    chapter_number_fit signed width minimum maximum (if nat_lt bits (256 ^ width) then Some bits else None)
chapter_fit (chapter.a_choice width offered) (chapter.whole n) = chapter_choice_fit width offered n
chapter_fit (chapter.a_choice width offered) (chapter.raw bits) = chapter_choice_fit width offered (pos bits)
chapter_fit (chapter.a_text minimum maximum) (chapter.utf8 bytes) =
    if chapter_is_text bytes then chapter_text_fit minimum maximum (chars bytes) else Err chapter.BadText
chapter_fit (chapter.a_text minimum maximum) (chapter.units bytes) = chapter_text_fit minimum maximum (chapter.items 2 bytes)
chapter_fit (chapter.a_list width most unique some offered) (chapter.listed ns) = chapter_list_fit width most unique some offered ns
chapter_fit (chapter.a_list width most unique some offered) (chapter.elements bytes) =
    chapter_list_fit width most unique some offered (chapter.items width bytes)
chapter_fit t offer = Err chapter.Kind

abbrev chapter_values_in : chapter.FieldType → chapter.Offer → List ℕ
chapter_values_in (chapter.a_choice width offered) (chapter.whole (pos n)) = n ∷ []
chapter_values_in (chapter.a_choice width offered) (chapter.raw bits) = bits ∷ []
chapter_values_in (chapter.a_list width most unique some offered) (chapter.listed ns) = ns
chapter_values_in (chapter.a_list width most unique some offered) (chapter.elements bytes) = chapter.items width bytes
chapter_values_in t offer = []

-- so a field is read alike
as_same : (t : FieldType) (offer : Offer) → chapter_read_as (type_for t) (offer_for offer) ≡ offer_for (read_as t offer)
as_same checkbox (field bytes) = refl
as_same (numeric signed w mn mx) (field bytes) = refl
as_same (one_of w vs) (field bytes) = refl
as_same (text mn mx) (field bytes) = refl
as_same (ordered_list w most unique some vs) (field bytes) = refl
as_same t offer = refl

tested : (b : Bool) (x y : Result (List ℕ) DenialKind) → (if b then bytes_or_denial x else bytes_or_denial y) ≡ bytes_or_denial (if b then x else y)
tested true x y = refl
tested false x y = refl

pub many : (n few : ℕ) → few < 2 → (suc (suc n) == few) ≡ false
many n few less = ne_eqb (suc (suc n)) few (λ e. omega (arith, less, e))

flag_same : (n : ℤ) → chapter_flag_fit n ≡ bytes_or_denial (checkbox_number n)
flag_same (pos zero) = refl
flag_same (pos (suc zero)) = refl
flag_same (pos (suc (suc n))) =
    let more : nat_lt (suc (suc n)) 2 ≡ false = le-ltb (suc (suc n)) 2 (omega arith) in
    rw (more, many n 0 (omega arith), many n 1 (omega arith)) refl
flag_same (negsuc n) = refl

number_same : (signed : Bool) (w mn mx : ℕ) (bits : Option ℕ) → chapter_number_fit signed w mn mx bits ≡ bytes_or_denial (numeric_bytes signed w mn mx bits)
number_same signed w mn mx None = refl
number_same signed w mn mx (Some bits) =
    let number = chapter.number_of_bits signed w in
    tested (int_lt (number bits) (number mn) || int_lt (number mx) (number bits)) (Err Range) (Ok (little_bytes w bits))

choice_same : (w : ℕ) (vs : List ℕ) (n : ℤ) → chapter_choice_fit w vs n ≡ bytes_or_denial (chosen_bytes w (offered vs n))
choice_same w vs (pos n) = by (is_among n vs)
  where
    by : (b : Bool) → (if b then Ok (little_bytes w n) else Err chapter.NoOption) ≡ bytes_or_denial (chosen_bytes w (if b then Some n else None))
    by true = refl
    by false = refl
choice_same w vs (negsuc n) = refl

text_same : (mn mx : ℕ) (us : List ℕ) → chapter_text_fit mn mx us ≡ bytes_or_denial (text_bytes mn mx us)
text_same mn mx us =
    tested (nat_lt (length us) mn || nat_lt mx (length us)) (Err Length) (Ok (chapter_filled (2 * mx) (flat_map (little_bytes 2) us)))

-- an element, and those behind it
element_by : (a b : Bool) (rest : Option chapter.DenialKind) (why : Element → Option DenialKind) (e : Element) (o : Option Element)
    → why e ≡ (if a then Some NoOption else if b then Some Repeat else None) → rest ≡ option_map kind_for (option_and_then why o)
    → (if a then Some chapter.NoOption else if b then Some chapter.Repeat else rest) ≡ option_map kind_for (option_and_then why (if is_some (why e) then Some e else o))
element_by true b rest why e o is same = rw is (ap (option_map kind_for) (sym is))
element_by false true rest why e o is same = rw is (ap (option_map kind_for) (sym is))
element_by false false rest why e o is same = rw is same

denial_same : (unique : Bool) (vs before ns : List ℕ) → chapter_element_denial unique vs before ns
    ≡ option_map kind_for (option_and_then (denial_of vs unique) (find (λ e. is_some (denial_of vs unique e)) (elements_behind before ns)))
denial_same unique vs before [] = refl
denial_same unique vs before (n ∷ ns) =
    element_by (n == 0 || not (is_offered vs n)) (unique && is_offered before n) _ (denial_of vs unique) (record { before = before; number = n }) _ refl
    (denial_same unique vs (before ++ n ∷ []) ns)

list_by : (a b : Bool) (why : Option DenialKind) (bytes : List ℕ)
    → (if a then Err chapter.Length else if b then Err chapter.EmptySet else unwrap_or (option_map (λ kind. Err kind) (option_map kind_for why)) (Ok bytes))
    ≡ bytes_or_denial (bytes_unless (if a then Some Length else if b then Some EmptySet else why) bytes)
list_by true b why bytes = refl
list_by false true why bytes = refl
list_by false false None bytes = refl
list_by false false (Some denial) bytes = refl

list_same : (w most : ℕ) (unique some : Bool) (vs ns : List ℕ) → chapter_list_fit w most unique some vs ns ≡ bytes_or_denial (list_bytes w most unique some vs ns)
list_same w most unique some vs ns =
    let long = nat_lt most (length ns) in
    let none = some && length ns == 0 in
    let bytes = chapter_filled (most * w) (flat_map (little_bytes w) ns) in
    ap (λ (why : Option chapter.DenialKind). if long then Err chapter.Length else if none then Err chapter.EmptySet else unwrap_or (option_map (λ kind. Err kind) why) (Ok bytes))
    (denial_same unique vs [] ns)
    ∙ list_by long none _ bytes

fit_same : (t : FieldType) (offer : Offer) → chapter_fit (type_for t) (offer_for offer) ≡ bytes_or_denial (fits_type t offer)
fit_same checkbox (whole n) = flag_same n
fit_same (numeric signed w mn mx) (whole n) = number_same signed w mn mx (bits_of signed w n)
fit_same (numeric signed w mn mx) (raw bits) = number_same signed w mn mx (fitting_bits w bits)
fit_same (one_of w vs) (whole n) = choice_same w vs n
fit_same (one_of w vs) (raw bits) = choice_same w vs (pos bits)
fit_same (text mn mx) (utf8 bytes) =
    ap (λ (r : Result (List ℕ) chapter.DenialKind). if chapter_is_text bytes then r else Err chapter.BadText) (text_same mn mx (chars bytes))
    ∙ tested (chapter_is_text bytes) (text_bytes mn mx (chars bytes)) (Err BadText)
fit_same (text mn mx) (units bytes) = text_same mn mx (items_in 2 bytes)
fit_same (ordered_list w most unique some vs) (listed ns) = list_same w most unique some vs ns
fit_same (ordered_list w most unique some vs) (elements bytes) = list_same w most unique some vs (items_in w bytes)
fit_same t offer = refl

abbrev chapter_fits : Option chapter.Field → Option chapter.FieldType → chapter.Offer → Result (List ℕ) chapter.DenialKind
chapter_fits f t offer = if is_none f then Err chapter.Kind else unwrap_or (option_map (λ t. chapter_fit t (chapter_read_as t offer)) t) (Err chapter.Kind)

fits_alike : (t : Option FieldType) (f : Option Field) (offer : Offer) → chapter_fits (option_map field_for f) (option_map type_for t) (offer_for offer) ≡ bytes_or_denial (fits_field t f offer)
fits_alike None None offer = refl
fits_alike None (Some f) offer = refl
fits_alike (Some t) None offer = refl
fits_alike (Some t) (Some f) offer = ap (chapter_fit (type_for t)) (as_same t offer) ∙ fit_same t (read_as t offer)

pub fits_same : (ns : List Node) (q : Node) (offer : Offer) → chapter.fits ns q (offer_for offer) ≡ bytes_or_denial (fits ns q offer)
fits_same ns q offer =
    ap (λ (f : Option chapter.Field). chapter_fits f (chapter.type_of q) (offer_for offer)) (field_same ns q)
    ∙ ap (λ (t : Option chapter.FieldType). chapter_fits (option_map field_for (field_of ns q)) t (offer_for offer)) (type_same q)
    ∙ fits_alike (type_of q) (field_of ns q) offer

named_same : (t : FieldType) (offer : Offer) → chapter_values_in (type_for t) (offer_for offer) ≡ values_in t offer
named_same (one_of w vs) (whole (pos n)) = refl
named_same (one_of w vs) (whole (negsuc n)) = refl
named_same (ordered_list w most unique some vs) (elements bytes) = refl
named_same t offer = refl

named_alike : (t : Option FieldType) (offer : Offer) → unwrap_or (option_map (λ t. chapter_values_in t (chapter_read_as t (offer_for offer))) (option_map type_for t)) [] ≡ values_for t offer
named_alike None offer = refl
named_alike (Some t) offer = ap (chapter_values_in (type_for t)) (as_same t offer) ∙ named_same t (read_as t offer)

pub values_same : (q : Node) (offer : Offer) → chapter.values_offered q (offer_for offer) ≡ values_offered q offer
values_same q offer =
    ap (λ (t : Option chapter.FieldType). unwrap_or (option_map (λ t. chapter_values_in t (chapter_read_as t (offer_for offer))) t) []) (type_same q)
    ∙ named_alike (type_of q) offer

-- ---- what a question answers

abbrev chapter_answer_in : chapter.FieldType → List ℕ → rules.Value
chapter_answer_in chapter.a_flag bytes = rules.boolean (not (slice_index bytes 0 == 0))
chapter_answer_in (chapter.a_number signed width minimum maximum) bytes = rules.natural (little_number width bytes)
chapter_answer_in (chapter.a_choice width offered) bytes = rules.natural (little_number width bytes)
chapter_answer_in (chapter.a_text minimum maximum) bytes = rules.text (chapter.bytes_of_items 2 bytes)
chapter_answer_in (chapter.a_list width most unique some offered) bytes = rules.buffer bytes

abbrev chapter_answer : Option chapter.FieldType → Option (List ℕ) → rules.Value
chapter_answer t held = unwrap_or (option_and_then (λ bytes. option_map (λ t. chapter_answer_in t bytes) t) held) rules.undefined

value_alike : (t : FieldType) (bytes : List ℕ) → chapter_answer_in (type_for t) bytes ≡ value_for (answer_in t bytes)
value_alike checkbox bytes = refl
value_alike (numeric signed w mn mx) bytes = refl
value_alike (one_of w vs) bytes = refl
value_alike (text mn mx) bytes = refl
value_alike (ordered_list w most unique some vs) bytes = refl

some_value : (t : FieldType) (bytes : List ℕ) → chapter_answer_in (type_for t) bytes ≡ rules.undefined → ⊥
some_value checkbox bytes e = cc
some_value (numeric signed w mn mx) bytes e = cc
some_value (one_of w vs) bytes e = cc
some_value (text mn mx) bytes e = cc
some_value (ordered_list w most unique some vs) bytes e = cc

-- a field is as wide as its type
wide_as : (store offset : ℕ) (size width : Option ℕ) (f : Field) → field_in store offset size width ≡ Some f → width ≡ Some f.width
wide_as store offset None width f e = absurd (cc)
wide_as store offset (Some s) None f e = absurd (cc)
wide_as store offset (Some s) (Some w) f e = elim (cases_Bool (store == 0)) [
  | inl is ↦ let none : None ≡ Some f = sym (rw is refl) ∙ e in absurd (cc)
  | inr other ↦
      let its : Field = record { store = store; offset = offset; width = w } in
      let told : Some its ≡ Some f = sym (rw other refl) ∙ e in
      let same : its ≡ f = cc in
      ap (λ (g : Field). Some g.width) same
]

type_width_of : (ns : List Node) (q : Node) (f : Field) → field_of ns q ≡ Some f → option_map size_of_type (type_of q) ≡ Some f.width
type_width_of ns q f e = wide_as (question_store q.op) (question_offset q.op) (size_of (layout_of ns) (question_store q.op)) (field_width q) f e

by_bytes : (t : Option FieldType) (width : ℕ) (held : Option (List ℕ)) → option_map size_of_type t ≡ Some width → IfSome held (λ bytes. length bytes ≡ width)
    → chapter_answer (option_map type_for t) held ≡ value_for (value_of_bytes t held)
by_bytes None width held e long = absurd (cc)
by_bytes (Some t) width None e long = refl
by_bytes (Some t) width (Some bytes) e long =
    let wide : size_of_type t ≡ width = cc in
    rw (eq-eqb (length bytes) (size_of_type t) (long ∙ sym wide)) (value_alike t bytes)

to_bytes : (t : Option FieldType) (width : ℕ) (held : Option (List ℕ)) → option_map size_of_type t ≡ Some width
    → chapter_answer (option_map type_for t) held ≡ value_for (value_of_bytes t held) → IfSome held (λ bytes. length bytes ≡ width)
to_bytes None width held e same = absurd (cc)
to_bytes (Some t) width None e same = tt
to_bytes (Some t) width (Some bytes) e same = elim (cases_Bool (length bytes == size_of_type t)) [
  | inl is ↦
      let wide : size_of_type t ≡ width = cc in
      eqb-true (length bytes) (size_of_type t) is ∙ wide
  | inr other ↦ absurd (some_value t bytes (rw other at same))
]

-- the answer of the chapters by what the contracts read
chapter_side : (ns : List Node) (m : StoreMap) (q : Node) → chapter.answer_of ns (stores_for m) q ≡ chapter_answer (option_map type_for (type_of q)) (field_bytes m (field_of ns q))
chapter_side ns m q =
    ap (λ (t : Option chapter.FieldType). chapter_answer t (option_and_then (chapter.field_bytes (stores_for m)) (chapter.field_of ns q))) (type_same q)
    ∙ ap (λ (f : Option chapter.Field). chapter_answer (option_map type_for (type_of q)) (option_and_then (chapter.field_bytes (stores_for m)) f)) (field_same ns q)
    ∙ ap (chapter_answer (option_map type_for (type_of q))) (read_same m (field_of ns q))

pub answer_same : (ns : List Node) (m : StoreMap) (q : Node) → HoldsWhole m (asked ns q) → chapter.answer_of ns (stores_for m) q ≡ value_for (answer_of ns m (Some q))
answer_same ns m q holds = chapter_side ns m q ∙ by_field (field_of ns q) refl holds
  where
    by_field : (f : Option Field) → field_of ns q ≡ f → HoldsWhole m (record { node = q; field = f }) → chapter_answer (option_map type_for (type_of q)) (field_bytes m f) ≡ value_for (value_of_field m q f)
    by_field None at holds = refl
    by_field (Some f) at holds = by_bytes (type_of q) f.width (field_bytes m (Some f)) (type_width_of ns q f at) holds

pub whole_only : (ns : List Node) (m : StoreMap) (q : Node) → chapter.answer_of ns (stores_for m) q ≡ value_for (answer_of ns m (Some q)) → HoldsWhole m (asked ns q)
whole_only ns m q same = by_field (field_of ns q) refl (sym (chapter_side ns m q) ∙ same)
  where
    by_field : (f : Option Field) → field_of ns q ≡ f → chapter_answer (option_map type_for (type_of q)) (field_bytes m f) ≡ value_for (value_of_field m q f) → HoldsWhole m (record { node = q; field = f })
    by_field None at same = tt
    by_field (Some f) at same = to_bytes (type_of q) f.width (field_bytes m (Some f)) (type_width_of ns q f at) same

-- A range inside of bytes is as long as it is wide.
range_long : (bytes : List ℕ) (offset width : ℕ) → offset + width ≤ length bytes → length (slice_range bytes offset (offset + width)) ≡ width
range_long bytes offset width within =
    let behind : length (drop offset bytes) ≡ length bytes - offset = length-drop offset bytes in
    let many : offset + width - offset ≡ width = omega arith in
    length-take-le (offset + width - offset) (drop offset bytes) (omega (arith, behind, within)) ∙ many

range_there : (o : Option (List ℕ)) (offset width : ℕ) → IsSomeAnd (option_map (λ (bytes : List ℕ). length bytes) o) (λ size. offset + width ≤ size)
    → IfSome (option_map (λ bytes. slice_range bytes offset (offset + width)) o) (λ bytes. length bytes ≡ width)
range_there None offset width within = absurd within
range_there (Some bytes) offset width within = range_long bytes offset width within

pub whole_there : (ns : List Node) (m : StoreMap) (q : Node) → HasNone (IsQuestionFault ns) → shape_of m ≡ layout_of ns → Contains ns q → is_question q ≡ true → HoldsWhole m (asked ns q)
whole_there ns m q none shape within is = by_field (field_of ns q) refl
  where
    by_field : (f : Option Field) → field_of ns q ≡ f → HoldsWhole m (record { node = q; field = f })
    by_field None at = tt
    by_field (Some f) at =
        let range : HasRange (shape_of m) f.store f.offset f.width = subst (λ s. HasRange s f.store f.offset f.width) (sym shape) (holds_fields ns q f none within is at) in
        range_there (bytes_of m f.store) f.offset f.width (rw (sizes m f.store) at range)

pub answers_same : (ns : List Node) (m : StoreMap) (id : ℕ) → IfSome (question_with ns id) (λ q. HoldsWhole m (asked ns q)) → chapter.answers ns (stores_for m) id ≡ value_for (answers ns m id)
answers_same ns m id holds =
    ap (λ (o : Option Node). unwrap_or (option_map (chapter.answer_of ns (stores_for m)) o) rules.undefined) (by_id_same ns id) ∙ found (question_with ns id) holds
  where
    found : (o : Option Node) → IfSome o (λ q. HoldsWhole m (asked ns q)) → unwrap_or (option_map (chapter.answer_of ns (stores_for m)) o) rules.undefined ≡ value_for (answer_of ns m o)
    found None holds = refl
    found (Some q) holds = answer_same ns m q holds

pub all_answers_same : (ns : List Node) (m : StoreMap) (id : ℕ) → HasNone (IsQuestionFault ns) → shape_of m ≡ layout_of ns → chapter.answers ns (stores_for m) id ≡ value_for (answers ns m id)
all_answers_same ns m id none shape = answers_same ns m id (found (question_with ns id) refl)
  where
    found : (o : Option Node) → question_with ns id ≡ o → IfSome o (λ q. HoldsWhole m (asked ns q))
    found None at = tt
    found (Some q) at = let there = finds_questions ns id q at in whole_there ns m q none shape there.0 there.1
