-- What a field takes names the items that it takes, and the values of a package's options fit their Types.
use Rattle.std.proofs.Common.{◌≡◌, ℕ, zero, suc, ◌+◌, ◌-◌, ◌*◌, ◌^◌, ◌<◌, Bool, true, false, eqb, not, cond, ◌&&◌, ◌||◌, pos, Option, Some, None, Ok, List, [], ◌∷◌, ◌++◌, length, drop, refl, sym, ap, subst, ◌∙◌, arith, lit<, inl, inr}
use Rattle.std.specs.Prelude.{Contains, ℤ}
use Rattle.std.specs.List.{list_any}
use Rattle.std.proofs.lemmas.List.{get_or-drop}
use Rattle.std.proofs.lemmas.Bool.{cases_Bool, eqb-true, eq-eqb, not-false, or_parts}
use Rattle.byteorder.specs.Endian.{little_number, little_bytes}
use Rattle.hii_bytes.specs.Faults.{HasNone}
use Rattle.hii_bytes.specs.declared.cause.Cause.TheVariants.{MixedOptions}
use Rattle.hii_bytes.proofs.NumberLemmas.{number_in-lt}
use Rattle.hii_bytes.specs.Numbers.{AreBytes}
use Rattle.ifr_opcodes.specs.Fields.{type_width, option_kind}
use Rattle.ifr_opcodes.specs.Forest.{Node, SpellsForest, flat, node, none, below}
use Rattle.ifr_opcodes.specs.Opcode.{number}
use Rattle.ifr_opcodes.specs.Reading.{tree_of}
use Rattle.ifr_opcodes.specs.declared.codes.TheConstants.{ORDERED_LIST}
use Rattle.ifr_nodes.specs.Accepted.{IsAccepted}
use Rattle.ifr_nodes.specs.Nodes.{nodes_of, is_option, is_question, options}
use Rattle.ifr_index.proofs.PathLemmas.{kept}
use Rattle.ifr_nodes.proofs.PlaceLemmas.{node_stands}
use Rattle.ifr_nodes.proofs.ViewLemmas.{below_within}
use Rattle.hii_values.specs.Answers.{answer_in}
use Rattle.hii_values.specs.FieldTypes.{FieldType, checkbox, numeric, one_of, text, ordered_list, size_of_type}
use Rattle.hii_values.specs.Inputs.{Offer, whole, raw, listed, elements, read_as, fits_type, is_offered, offered, chosen_bytes, list_bytes, number_named, values_in}
use Rattle.hii_values.specs.Items.{items_in, spelled, filled}
use Rattle.hii_values.specs.Types.{element_width, first_kind, width_of_kind, type_of, option_values}
use Rattle.hii_values.specs.code.Fitting.{one_item, offered_items, names_options, denial_behind}
use Rattle.hii_values.specs.declared.denial.DenialKind.TheVariants.{NoOption, Repeat}
use Rattle.hii_values.proofs.ListLemmas.{first_denied}
use Rattle.hii_questions.specs.Answers.{value_of_bytes}
use Rattle.hii_questions.specs.Faults.{IsQuestionFault, is_mixed, is_of_another_type}
use Rattle.hii_varstore.specs.code.Ranges.{HasRange}
use Rattle.hii_varstore.specs.Stores.{shape_of, with_bytes, bytes_of_field as field_bytes}
use Rattle.hii_varstore.proofs.WriteLemmas.{field_back}
use Rattle.hii_questions.specs.Fields.{Field, field_of}
use Rattle.hii_questions.specs.Fits.{fits_field, values_for}
use Rattle.hii_questions.specs.code.Checks.{ValuesFit}
use Rattle.hii_questions.specs.laws.Fields.{named_values, NamesWhatWasOffered}
use Rattle.hii_questions.proofs.KeptLemmas.{IsSound, number_back, chosen_are, list_are, wide}
use Rattle.hii_questions.proofs.LawLemmas.{SoundWith, by_type, option_sound, with_value, type_sound, fits_wide}
use Rattle.hii_questions.proofs.SpellLemmas.{AreItems, items_back}

-- ---- the value of an option fits its Type

front_bytes : (xs ys : List ℕ) → AreBytes (xs ++ ys) → AreBytes xs
front_bytes [] ys are k = lit< tt
front_bytes (x ∷ xs) ys are zero = are 0
front_bytes (x ∷ xs) ys are (suc k) = front_bytes xs ys (λ i. are (suc i)) k

-- an opcode of a package is a part of its bytes
opcode_bytes : (ifr : List ℕ) (n : Node) → AreBytes ifr → SpellsForest ifr (tree_of ifr) → Contains (nodes_of ifr) n → AreBytes n.op
opcode_bytes ifr n are spells within =
    let its = flat (node n.op n.children none) in
    let stood = node_stands ifr (tree_of ifr) n spells within in
    let from_its_place : AreBytes (drop n.place ifr) = λ k. rw (get_or-drop n.place ifr k 0) (are (n.place + k)) in
    front_bytes n.op _ (front_bytes its stood.0 (subst AreBytes stood.1 from_its_place))

option_below : (n o : Node) → Contains (options n) o → Contains (below n) o
option_below n o offered = elim (cases_Bool (is_question n)) [
  | inl asks ↦ kept is_option (below n) o (rw asks at offered)
  | inr other ↦ let nowhere : Contains [] o = rw other at offered in absurd (omega (arith, nowhere.1))
]

-- The options of a node of a package have values that fit.
pub values_fit : (ifr : List ℕ) (n : Node) → AreBytes ifr → IsAccepted ifr → Contains (nodes_of ifr) n → ValuesFit (options n)
values_fit ifr n are accepted within o offered =
    let spells = accepted.checked.spelled in
    number_in-lt o.op 6 (type_width (option_kind o.op)) (opcode_bytes ifr o are spells (below_within (tree_of ifr) 4 [] n o within (option_below n o offered)))

-- ---- the values of the options of an ORDERED_LIST fit its elements

alike : (os : List Node) (o : Node) → Contains os o → is_of_another_type (first_kind os) (option_kind o.op) ≡ false → width_of_kind (first_kind os) ≡ type_width (option_kind o.op)
alike [] o (k, lt, e) same = absurd (omega arith)
alike (first ∷ os) o there same =
    ap type_width (sym (eqb-true (option_kind o.op) (option_kind first.op) (not-false (eqb (option_kind o.op) (option_kind first.op)) same)))

elements_small : (ns : List Node) (n : Node) → HasNone (IsQuestionFault ns) → Contains ns n → is_question n ≡ true → ValuesFit (options n)
    → eqb (number n.op) ORDERED_LIST ≡ true → (v : ℕ) → is_offered (option_values (options n)) v ≡ true → v < 256 ^ element_width n
elements_small ns n faultless within is fit code v offers =
    let o = with_value (options n) v offers in
    let sound : is_mixed n o.0 ≡ false = option_sound ns n o.0 MixedOptions faultless within is o.1 in
    let same = alike (options n) o.0 o.1 (sym (rw code refl) ∙ sound) in
    subst (λ (w : ℕ). v < 256 ^ w) (sym same) (subst (λ (m : ℕ). m < 256 ^ type_width (option_kind o.0.op)) o.2 (fit o.0 o.1))

-- the values of the options of a list fit its elements
abbrev pub ElementsFit : Option FieldType → Type 0
ElementsFit (Some (ordered_list w most unique some vs)) = (v : ℕ) → is_offered vs v ≡ true → v < 256 ^ w
ElementsFit _ = Unit {0}

pub elements_fit : (ns : List Node) (n : Node) → HasNone (IsQuestionFault ns) → Contains ns n → is_question n ≡ true → ValuesFit (options n) → ElementsFit (type_of n)
elements_fit ns n faultless within is fit = by_type ElementsFit n tt (λ signed w mn mx. tt) (λ one. tt) (λ mn mx. tt) (λ list. elements_small ns n faultless within is fit list) tt

-- ---- what is taken names what was offered

number_back_of : (w v : ℕ) (bytes : List ℕ) → bytes ≡ little_bytes w v → v < 256 ^ w → little_number w bytes ∷ [] ≡ v ∷ []
number_back_of w v bytes is less = ap (λ (l : List ℕ). little_number w l ∷ []) is ∙ ap (λ (n : ℕ). n ∷ []) (number_back w v less)

one_of_named : (w : ℕ) (vs : List ℕ) (z : ℤ) (bytes : List ℕ) → IsSound (one_of w vs) → chosen_bytes w (offered vs z) ≡ Ok bytes → little_number w bytes ∷ [] ≡ number_named z
one_of_named w vs z bytes sound e =
    let are = chosen_are w vs z bytes e in
    number_back_of w are.0 bytes are.3 (sound are.0 are.2) ∙ ap number_named (sym are.1)

-- elements that are taken are no zeros, and fit
elements_taken : (w : ℕ) (vs : List ℕ) (unique : Bool) (before ns : List ℕ) → ((v : ℕ) → is_offered vs v ≡ true → v < 256 ^ w) → denial_behind vs unique before ns ≡ None → AreItems w ns
elements_taken w vs unique before [] small e = tt
elements_taken w vs unique before (n ∷ ns) small e = elim (cases_Bool (eqb n 0 || not (is_offered vs n))) [
  | inl bad ↦ let none : Some NoOption ≡ None = sym (rw bad refl) ∙ e in absurd (cc)
  | inr fine ↦
      let parts = or_parts (eqb n 0) (not (is_offered vs n)) fine in
      elim (cases_Bool (unique && list_any (λ earlier. eqb earlier n) before)) [
        | inl again ↦ let none : Some Repeat ≡ None = sym (rw (fine, again) refl) ∙ e in absurd (cc)
        | inr new ↦
            let rest : denial_behind vs unique (before ++ n ∷ []) ns ≡ None = sym (rw (fine, new) refl) ∙ e in
            ((λ z. let bad : eqb 0 0 ≡ false = ap (λ (k : ℕ). eqb k 0) (sym z) ∙ parts.0 in absurd (cc)), small n (not-false (is_offered vs n) parts.1), elements_taken w vs unique (before ++ n ∷ []) ns small rest)
      ]
]

list_back : (w most : ℕ) (ns : List ℕ) → AreItems w ns → items_in w (filled (most * w) (spelled w ns)) ≡ ns
list_back zero most [] are = let none : most * 0 ≡ 0 = omega arith in rw none refl
list_back zero most (n ∷ ns) are = absurd (are.0 (omega (arith, are.1)))
list_back (suc w) most ns are = items_back (suc w) ns (most * suc w - length (spelled (suc w) ns)) (omega arith) are

list_named : (w most : ℕ) (unique some : Bool) (vs ns bytes : List ℕ) → ElementsFit (Some (ordered_list w most unique some vs)) → list_bytes w most unique some vs ns ≡ Ok bytes → items_in w bytes ≡ ns
list_named w most unique some vs ns bytes fit e =
    let are = list_are w most unique some vs ns bytes e in
    ap (items_in w) are.0 ∙ list_back w most ns (elements_taken w vs unique [] ns fit (sym (first_denied vs unique ns) ∙ are.2))

named_in : (t : FieldType) (offer : Offer) (bytes : List ℕ) → IsSound t → ElementsFit (Some t) → fits_type t offer ≡ Ok bytes → named_values (Some t) (answer_in t bytes) ≡ values_in t offer
named_in checkbox offer bytes sound fit e = refl
named_in (numeric signed w mn mx) offer bytes sound fit e = refl
named_in (one_of w vs) (whole z) bytes sound fit e = one_of_named w vs z bytes sound e
named_in (one_of w vs) (raw bits) bytes sound fit e = one_of_named w vs (pos bits) bytes sound e
named_in (text mn mx) offer bytes sound fit e = refl
named_in (ordered_list w most unique some vs) (listed ns) bytes sound fit e = list_named w most unique some vs ns bytes fit e
named_in (ordered_list w most unique some vs) (elements given) bytes sound fit e = list_named w most unique some vs (items_in w given) bytes fit e
named_in t offer bytes sound fit e = absurd (cc)

-- the value of new bytes names the values that were offered
pub value_named : (o : Option FieldType) (f : Option Field) (offer : Offer) (bytes : List ℕ) → SoundWith o → ElementsFit o → fits_field o f offer ≡ Ok bytes
    → named_values o (value_of_bytes o (Some bytes)) ≡ values_for o offer
value_named None f offer bytes sound fit e = refl
value_named (Some t) None offer bytes sound fit e = absurd (cc)
value_named (Some t) (Some f) offer bytes sound fit e =
    let whole_there : eqb (length bytes) (size_of_type t) ≡ true = eq-eqb (length bytes) (size_of_type t) (wide t (read_as t offer) bytes e) in
    rw whole_there (named_in t (read_as t offer) bytes sound fit e)

-- ---- the items of new bytes

one_item_offered : (vs : List ℕ) (z : ℤ) (w : ℕ) (bytes : List ℕ) → chosen_bytes w (offered vs z) ≡ Ok bytes → one_item (offered vs z) ≡ number_named z
one_item_offered vs z w bytes e =
    let are = chosen_are w vs z bytes e in
    let its : offered vs z ≡ Some are.0 = ap (offered vs) are.1 ∙ rw are.2 refl in
    ap one_item its ∙ ap number_named (sym are.1)

-- the items that a field takes and that are values of options are those that were offered
pub items_named : (t : FieldType) (offer : Offer) (bytes : List ℕ) → fits_type t offer ≡ Ok bytes → cond (names_options t) (offered_items t offer) [] ≡ values_in t offer
items_named checkbox offer bytes e = refl
items_named (numeric signed w mn mx) offer bytes e = refl
items_named (one_of w vs) (whole z) bytes e = one_item_offered vs z w bytes e
items_named (one_of w vs) (raw bits) bytes e = one_item_offered vs (pos bits) w bytes e
items_named (text mn mx) offer bytes e = refl
items_named (ordered_list w most unique some vs) (listed ns) bytes e = refl
items_named (ordered_list w most unique some vs) (elements given) bytes e = refl
items_named t offer bytes e = absurd (cc)

pub new_items_named : (o : Option FieldType) (t : FieldType) (offer : Offer) (bytes items : List ℕ) (names : Bool) → Some t ≡ o → fits_type t (read_as t offer) ≡ Ok bytes → items ≡ offered_items t (read_as t offer)
    → names ≡ names_options t → cond names items [] ≡ values_for o offer
new_items_named o t offer bytes items names typed e holds named =
    ap (λ (b : Bool). cond b items []) named ∙ ap (λ (l : List ℕ). cond (names_options t) l []) holds ∙ items_named t (read_as t offer) bytes e ∙ ap (λ (a : Option FieldType). values_for a offer) typed

-- what is read of the new field names the values that were offered
pub names_offered : NamesWhatWasOffered
names_offered m ifr n f offer bytes are accepted faultless within is e fit range =
    let ns = nodes_of ifr in
    let size = fits_wide ns n offer f bytes e fit in
    let back = field_back m f.store f.offset bytes (subst (λ (w : ℕ). HasRange (shape_of m) f.store f.offset w) (sym size) range) in
    let there : field_bytes (with_bytes m f.store f.offset bytes) f.store f.offset f.width ≡ Some bytes =
    subst (λ (w : ℕ). field_bytes (with_bytes m f.store f.offset bytes) f.store f.offset w ≡ Some bytes) size back in
    ap (λ b. named_values (type_of n) (value_of_bytes (type_of n) b)) there
    ∙ value_named (type_of n) (field_of ns n) offer bytes (type_sound ns n faultless within is) (elements_fit ns n faultless within is (values_fit ifr n are accepted within)) fit
