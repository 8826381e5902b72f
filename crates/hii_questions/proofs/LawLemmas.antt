-- Questions and their fields, where no question has a fault.
use Rattle.std.proofs.Common.{◌≡◌, ℕ, zero, suc, ◌+◌, ◌^◌, ◌<◌, ◌≤◌, Bool, true, false, eqb, leb, ◌&&◌, Option, Some, None, Ok, List, [], ◌∷◌, map, length, refl, sym, ap, subst, ◌∙◌, arith, inl, inr, option_map}
use Rattle.std.specs.Prelude.{is_some, IsSomeAnd, Contains, filter}
use Rattle.std.specs.List.{flat_map}
use Rattle.std.proofs.lemmas.Bool.{cases_Bool, and_parts, eqb-true, eq-eqb, ltb-false, leb-false, false_from_ne_true, false≢true}
use Rattle.std.proofs.lemmas.List.Elements.{Contains-append_left, Contains-append_right}
use Rattle.hii_bytes.specs.Faults.{HasNone}
use Rattle.hii_bytes.specs.declared.cause.Cause.TheVariants.{FieldOutside, OptionRange}
use Rattle.hii_bytes.specs.declared.cause.Cause.{Cause}
use Rattle.ifr_opcodes.specs.Fields.{question_id, question_store, question_offset, display, numeric_width, numeric_minimum, numeric_maximum, one_of_width, string_minimum, string_maximum, password_minimum, password_maximum, ordered_list_containers, is_unique_set, has_no_empty_set, option_value}
use Rattle.ifr_opcodes.specs.Forest.{Node}
use Rattle.ifr_opcodes.specs.Opcode.{number}
use Rattle.ifr_opcodes.specs.declared.codes.TheConstants.{CHECKBOX, NUMERIC, ONE_OF, STRING, PASSWORD, ORDERED_LIST}
use Rattle.ifr_nodes.specs.Nodes.{is_question, options}
use Rattle.ifr_scopes.proofs.FormPlaceLemmas.{found}
use Rattle.ifr_nodes.proofs.ViewLemmas.{further}
use Rattle.hii_varstore.specs.Layout.{size_of}
use Rattle.hii_varstore.specs.code.Ranges.{HasRange}
use Rattle.hii_varstore.specs.StoreNodes.{layout_of}
use Rattle.hii_varstore.specs.Stores.{StoreMap, shape_of, with_bytes, bytes_of_field as field_bytes}
use Rattle.hii_varstore.proofs.WriteLemmas.{field_back, field_after}
use Rattle.hii_values.specs.FieldTypes.{FieldType, checkbox, numeric, one_of, text, ordered_list, size_of_type}
use Rattle.hii_values.specs.Inputs.{Offer, units, field, field_as, read_as, is_offered}
use Rattle.hii_values.specs.Types.{is_signed, element_width, type_of, option_values}
use Rattle.hii_questions.specs.Answers.{value_of_bytes}
use Rattle.hii_questions.specs.Faults.{IsQuestionFault, itself, option, has_field_fault, has_option_fault, parts_of, is_known, is_past, is_field_outside, is_option_too_large}
use Rattle.hii_questions.specs.Fields.{Field, Asked, asked, questions, field_in, field_of, field_width, question_with}
use Rattle.hii_questions.specs.Fits.{fits_field}
use Rattle.hii_questions.specs.laws.Fields.{HoldsFields, FindsQuestions, ReadsBack, LeavesOthers, HasBytes, taken_value, FillsFields}
use Rattle.hii_questions.proofs.KeptLemmas.{IsSound, kept, wide}

pub finds_questions : FindsQuestions
finds_questions ns id n e = elim (cases_Bool (eqb id 0)) [
  | inl zero_id ↦ let none = rw zero_id at e in absurd (cc)
  | inr some ↦
      let there = found (λ (m : Node). is_question m && eqb (question_id m.op) id) ns n (rw some at e) in
      let passes = and_parts (is_question n) (eqb (question_id n.op) id) there.1 in
      (there.0, passes.0, eqb-true (question_id n.op) id passes.1)
]

passing : {X : Type 0} (p : X → Bool) (xs : List X) (x : X) → Contains xs x → p x ≡ true → Contains (filter p xs) x
passing p [] x (k, lt, e) is = absurd (omega arith)
passing p (y ∷ xs) x (zero, lt, e) is = let here = ap p e ∙ is in rw here (0, omega arith, e)
passing p (y ∷ xs) x (suc k, lt, e) is = elim (cases_Bool (p y)) [
  | inl here ↦ rw here (further y (filter p xs) x (passing p xs x (k, omega arith, e) is))
  | inr other ↦ rw other (passing p xs x (k, omega arith, e) is)
]

mapped : {X Y : Type 0} (f : X → Y) (xs : List X) (x : X) → Contains xs x → Contains (map f xs) (f x)
mapped f [] x (k, lt, e) = absurd (omega arith)
mapped f (y ∷ xs) x (zero, lt, e) = (0, omega arith, ap f e)
mapped f (y ∷ xs) x (suc k, lt, e) = further (f y) (map f xs) (f x) (mapped f xs x (k, omega arith, e))

gathered : {X Y : Type 0} (f : X → List Y) (xs : List X) (x : X) (y : Y) → Contains xs x → Contains (f x) y → Contains (flat_map f xs) y
gathered f [] x y (k, lt, e) within = absurd (omega arith)
gathered f (z ∷ xs) x y (zero, lt, e) within = Contains-append_left (f z) (flat_map f xs) y (subst (λ w. Contains (f w) y) (sym e) within)
gathered f (z ∷ xs) x y (suc k, lt, e) within = Contains-append_right (f z) (flat_map f xs) y (gathered f xs x y (k, omega arith, e) within)

-- a question is among the questions
asked_there : (ns : List Node) (n : Node) → Contains ns n → is_question n ≡ true → Contains (questions ns) (asked ns n)
asked_there ns n within is = mapped (asked ns) (filter is_question ns) n (passing is_question ns n within is)

field_sound : (ns : List Node) (n : Node) (cause : Cause) → HasNone (IsQuestionFault ns) → Contains ns n → is_question n ≡ true → has_field_fault (layout_of ns) (is_known ns) (asked ns n) cause ≡ false
field_sound ns n cause none within is =
    false_from_ne_true (has_field_fault (layout_of ns) (is_known ns) (asked ns n) cause) (λ bad.
    none cause n.place (itself (asked ns n), gathered parts_of (questions ns) (asked ns n) (itself (asked ns n)) (asked_there ns n within is) (0, omega arith, refl), refl, bad))

pub option_sound : (ns : List Node) (n o : Node) (cause : Cause) → HasNone (IsQuestionFault ns) → Contains ns n → is_question n ≡ true → Contains (options n) o → has_option_fault n o cause ≡ false
option_sound ns n o cause none within is there =
    false_from_ne_true (has_option_fault n o cause) (λ bad.
    let part = option (asked ns n) o in
    none cause o.place (part, gathered parts_of (questions ns) (asked ns n) part (asked_there ns n within is) (further (itself (asked ns n)) (map (option (asked ns n)) (options n)) part (mapped (option (asked ns n)) (options n) o there)), refl, bad))

-- a field that is there
located : (store offset : ℕ) (size width : Option ℕ) (f : Field) → field_in store offset size width ≡ Some f → (f.store ≡ store) × (width ≡ Some f.width) × (is_some size ≡ true)
located store offset None width f e = absurd (cc)
located store offset (Some s) None f e = absurd (cc)
located store offset (Some s) (Some w) f e = elim (cases_Bool (eqb store 0)) [
  | inl zero_id ↦ let none : None ≡ Some f = sym (rw zero_id refl) ∙ e in absurd (cc)
  | inr some ↦
      let its : Field = record { store = store; offset = offset; width = w } in
      let told : Some its ≡ Some f = sym (rw some refl) ∙ e in
      let same : its ≡ f = cc in
      (ap (λ (g : Field). g.store) (sym same), ap (λ (g : Field). Some g.width) same, refl)
]

in_range : (size : Option ℕ) (f : Field) → is_some size ≡ true → is_past f size ≡ false → IsSomeAnd size (λ s. f.offset + f.width ≤ s)
in_range None f there within = absurd (false≢true there)
in_range (Some s) f there within = ltb-false s (f.offset + f.width) within

pub holds_fields : HoldsFields
holds_fields ns n f none within is e =
    let shape = layout_of ns in
    let at = located (question_store n.op) (question_offset n.op) (size_of shape (question_store n.op)) (field_width n) f e in
    let inside : is_field_outside shape (field_of ns n) ≡ false = field_sound ns n FieldOutside none within is in
    let past : is_past f (size_of shape f.store) ≡ false = ap (is_field_outside shape) (sym e) ∙ inside in
    in_range (size_of shape f.store) f (ap (λ (id : ℕ). is_some (size_of shape id)) at.0 ∙ at.2) past

-- the new bytes of the question of an id lie in its store
pub found_fits : (ns : List Node) (id : ℕ) (n : Node) (f : Field) → HasNone (IsQuestionFault ns) → question_with ns id ≡ Some n → field_of ns n ≡ Some f → HasRange (layout_of ns) f.store f.offset f.width
found_fits ns id n f none e is = let there = finds_questions ns id n e in holds_fields ns n f none there.0 there.1 is

-- the field of a question that is found by its id lies in its store
pub range_found : (ns : List Node) (id : ℕ) (q : Asked) (f : Field) → HasNone (IsQuestionFault ns) → Some q ≡ option_map (asked ns) (question_with ns id) → q.field ≡ Some f
    → HasRange (layout_of ns) f.store f.offset f.width
range_found ns id q f none e is = go (question_with ns id) refl e
  where
    go : (o : Option Node) → question_with ns id ≡ o → Some q ≡ option_map (asked ns) o → HasRange (layout_of ns) f.store f.offset f.width
    go None at e = absurd (cc)
    go (Some n) at e =
        let same : q ≡ asked ns n = cc in
        found_fits ns id n f none at (ap (λ (a : Asked). a.field) (sym same) ∙ is)

pub leaves_others : LeavesOthers
leaves_others m id offset bytes n f apart = ap (value_of_bytes (type_of n)) (field_after m id offset f.store f.offset f.width bytes apart)

-- an option of a value
pub with_value : (os : List Node) (v : ℕ) → is_offered (option_values os) v ≡ true → (o : Node) × Contains os o × (option_value o.op ≡ v)
with_value [] v e = absurd (cc)
with_value (o ∷ os) v e = elim (cases_Bool (eqb (option_value o.op) v)) [
  | inl here ↦ (o, (0, omega arith, refl), eqb-true (option_value o.op) v here)
  | inr other ↦
      let later : is_offered (option_values os) v ≡ true = sym (rw other refl) ∙ e in
      let h = with_value os v later in
      (h.0, further o os h.0 h.1, h.2)
]

-- the values of the options of a ONE_OF fit its width
values_fit : (ns : List Node) (n : Node) → HasNone (IsQuestionFault ns) → Contains ns n → is_question n ≡ true → eqb (number n.op) ONE_OF ≡ true
    → (v : ℕ) → is_offered (option_values (options n)) v ≡ true → v < 256 ^ one_of_width n.op
values_fit ns n none within is code v offers =
    let o = with_value (options n) v offers in
    let sound : is_option_too_large n o.0 ≡ false = option_sound ns n o.0 OptionRange none within is o.1 in
    let less : leb (256 ^ one_of_width n.op) (option_value o.0.op) ≡ false = sym (rw code refl) ∙ sound in
    omega (arith, o.2, leb-false (256 ^ one_of_width n.op) (option_value o.0.op) less)

-- the type of a question's field, where its options fit
abbrev pub SoundWith : Option FieldType → Type 0
SoundWith None = Unit {0}
SoundWith (Some t) = IsSound t

-- what holds of each type that a question may have
pub by_type : (P : Option FieldType → Type 0) (n : Node) → P (Some checkbox) → ((signed : Bool) (w mn mx : ℕ) → P (Some (numeric signed w mn mx)))
    → (eqb (number n.op) ONE_OF ≡ true → P (Some (one_of (one_of_width n.op) (option_values (options n)))))
    → ((mn mx : ℕ) → P (Some (text mn mx)))
    → (eqb (number n.op) ORDERED_LIST ≡ true → P (Some (ordered_list (element_width n) (ordered_list_containers n.op) (is_unique_set n.op) (has_no_empty_set n.op) (option_values (options n)))))
    → P None → P (type_of n)
by_type P n check num one txt list other =
    elim (cases_Bool (eqb (number n.op) CHECKBOX)) [
      | inl a ↦ rw a check
      | inr a ↦ elim (cases_Bool (eqb (number n.op) NUMERIC)) [
        | inl b ↦ rw (a, b) (num (is_signed (display n.op)) (numeric_width n.op) (numeric_minimum n.op) (numeric_maximum n.op))
        | inr b ↦ elim (cases_Bool (eqb (number n.op) ONE_OF)) [
          | inl d ↦ rw (a, b, d) (one d)
          | inr d ↦ elim (cases_Bool (eqb (number n.op) STRING)) [
            | inl s ↦ rw (a, b, d, s) (txt (string_minimum n.op) (string_maximum n.op))
            | inr s ↦ elim (cases_Bool (eqb (number n.op) PASSWORD)) [
              | inl p ↦ rw (a, b, d, s, p) (txt (password_minimum n.op) (password_maximum n.op))
              | inr p ↦ elim (cases_Bool (eqb (number n.op) ORDERED_LIST)) [
                | inl l ↦ rw (a, b, d, s, p, l) (list l)
                | inr l ↦ rw (a, b, d, s, p, l) other
              ]
            ]
          ]
        ]
      ]
    ]

pub type_sound : (ns : List Node) (n : Node) → HasNone (IsQuestionFault ns) → Contains ns n → is_question n ≡ true → SoundWith (type_of n)
type_sound ns n none within is = by_type SoundWith n tt (λ signed w mn mx. tt) (values_fit ns n none within is) (λ mn mx. tt) (λ list. tt) tt

field_kept : (t : FieldType) (bytes : List ℕ) → HasBytes (field bytes) → HasBytes (field_as t bytes)
field_kept checkbox bytes h = tt
field_kept (numeric signed w mn mx) bytes h = tt
field_kept (one_of w vs) bytes h = tt
field_kept (text mn mx) bytes h = h
field_kept (ordered_list w most unique some vs) bytes h = tt

offer_kept : (t : FieldType) (offer : Offer) → HasBytes offer → HasBytes (read_as t offer)
offer_kept t (field bytes) h = field_kept t bytes h
offer_kept t (units bytes) h = h
offer_kept t offer h = tt

-- what is read of the new bytes
value_back : (o : Option FieldType) (f : Field) (offer : Offer) (bytes : List ℕ) (m : StoreMap) → SoundWith o → option_map size_of_type o ≡ Some f.width → HasBytes offer
    → fits_field o (Some f) offer ≡ Ok bytes → HasRange (shape_of m) f.store f.offset f.width
    → value_of_bytes o (field_bytes (with_bytes m f.store f.offset bytes) f.store f.offset f.width) ≡ taken_value o offer
value_back None f offer bytes m sound same given e range = absurd (cc)
value_back (Some t) f offer bytes m sound same given e range =
    let size = wide t (read_as t offer) bytes e in
    let width : size_of_type t ≡ f.width = cc in
    let sized : f.width ≡ length bytes = sym width ∙ sym size in
    let back = field_back m f.store f.offset bytes (subst (λ (w : ℕ). HasRange (shape_of m) f.store f.offset w) sized range) in
    let there : field_bytes (with_bytes m f.store f.offset bytes) f.store f.offset f.width ≡ Some bytes = rw sized back in
    let whole_there : eqb (length bytes) (size_of_type t) ≡ true = eq-eqb (length bytes) (size_of_type t) size in
    ap (value_of_bytes (Some t)) there ∙ rw whole_there (kept t (read_as t offer) bytes sound (offer_kept t offer given) e)

pub reads_back : ReadsBack
reads_back m ns n f offer bytes none within is e given fit range =
    let at = located (question_store n.op) (question_offset n.op) (size_of (layout_of ns) (question_store n.op)) (field_width n) f e in
    value_back (type_of n) f offer bytes m (type_sound ns n none within is) at.1 given (ap (λ (o : Option Field). fits_field (type_of n) o offer) (sym e) ∙ fit) range

-- what a question takes are as many bytes as its field has
wide_with : (o : Option FieldType) (f : Field) (offer : Offer) (bytes : List ℕ) → option_map size_of_type o ≡ Some f.width → fits_field o (Some f) offer ≡ Ok bytes → length bytes ≡ f.width
wide_with None f offer bytes width e = absurd (cc)
wide_with (Some t) f offer bytes width e = let same : size_of_type t ≡ f.width = cc in wide t (read_as t offer) bytes e ∙ same

pub fits_wide : FillsFields
fits_wide ns n offer f bytes e fit =
    let at = located (question_store n.op) (question_offset n.op) (size_of (layout_of ns) (question_store n.op)) (field_width n) f e in
    wide_with (type_of n) f offer bytes at.1 (ap (λ (o : Option Field). fits_field (type_of n) o offer) (sym e) ∙ fit)
