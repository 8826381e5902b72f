-- The chapters find the faults of questions and of their options that the contracts say.
use Rattle.std.proofs.Common.{◌≡◌, ◌⊎◌, ◌==◌, ℕ, ◌+◌, ◌^◌, Bool, true, Option, Some, None, List, [], ◌∷◌, ◌++◌, map, refl, ap, sym, ◌∙◌, inl, inr}
use Rattle.std.specs.Prelude.{◌&&◌, nat_lt, nat_le, not, filter, option_map}
use Rattle.std.specs.List.{flat_map, list_any}
use Rattle.std.proofs.lemmas.Grind.{flat_map-append}
use Rattle.std.proofs.lemmas.List.Folds.{flat_map-map}
use Rattle.std.proofs.lemmas.Bool.{cases_Bool, true≢false}
use Rattle.hii_bytes.specs.declared.cause.Cause.{Cause}
use Rattle.hii_bytes.specs.declared.cause.Cause.TheVariants.{UnknownVarstore, FieldOutside, OptionRange, MixedOptions}
use Rattle.ifr_opcodes.specs.Fields.{question_store, numeric_flags, one_of_width, option_kind}
use Rattle.ifr_opcodes.specs.Forest.{Node}
use Rattle.ifr_opcodes.specs.Opcode.{number}
use Rattle.ifr_opcodes.specs.declared.codes.TheConstants.{ONE_OF, ORDERED_LIST}
use Rattle.ifr_nodes.specs.Nodes.{is_question, is_store, options}
use Rattle.hii_varstore.specs.Layout.{size_of}
use Rattle.hii_varstore.specs.StoreNodes.{layout_of}
use Rattle.hii_values.specs.Types.{first_kind}
use Rattle.hii_questions.specs.Faults.{QuestionPart, itself, option, IsQuestionFault, has_question_fault, is_field_outside, is_known, is_mixed, is_of_another_type, is_option_too_large, is_past, lacks_store, parts_of, place_of}
use Rattle.hii_questions.specs.Fields.{Field, Asked, asked, field_of, questions}
use Rattle.browser_rules.specs.Faults.{Fault, question_faults, fault_if}
use Rattle.browser_rules.specs.Nodes as chapter_nodes
use Rattle.browser_rules.specs.Opcodes.{number_width}
use Rattle.browser_rules.specs.Questions as chapter
use Rattle.browser_rules.specs.Stores as stores
use Rattle.browser_rules.specs.Words.{first, is_some_and}
use Rattle.hii_bytes.specs.Faults.{AreFaults}
use Rattle.hii_bytes.specs.Causes.{cause_for}
use Rattle.rules_laws.specs.laws.Questions.{field_for}
use Rattle.rules_laws.proofs.FaultLemmas.{said_as, if_fault, either_kind, each_fault}
use Rattle.rules_laws.proofs.NodeLemmas.{options_same, same_flat}
use Rattle.hii_bytes.proofs.ChapterFaultLemmas.{where_same}
use Rattle.rules_laws.proofs.QuestionLemmas.{field_same, questions_same, value_same}
use Rattle.rules_laws.proofs.StoreLemmas.{id_same, size_of_same, stores_same}

-- ---- the tests of a question

known_there : (ns : List Node) (id : ℕ) → list_any (λ s. stores.store_id s == id) (filter is_store ns) ≡ is_known ns id
known_there [] id = refl
known_there (n ∷ ns) id = elim (cases_Bool (is_store n)) [
  | inl is ↦ rw (is, id_same n is, known_there ns id) refl
  | inr other ↦ rw other (known_there ns id)
]

known_same : (ns : List Node) (id : ℕ) → list_any (λ s. stores.store_id s == id) (stores.store_nodes ns) ≡ is_known ns id
known_same ns id = ap (list_any (λ (s : Node). stores.store_id s == id)) (stores_same ns) ∙ known_there ns id

-- as the chapters have them
abbrev chapter_lacks : List Node → Node → Bool
chapter_lacks ns q =
    not (question_store q.op == 0) && not (list_any (λ s. stores.store_id s == question_store q.op) (stores.store_nodes ns))

abbrev chapter_too_long : List Node → chapter.Field → Bool
chapter_too_long ns f = is_some_and (λ size. nat_lt size (f.offset + f.width)) (stores.size_of ns f.store)

abbrev chapter_outside : List Node → Node → Bool
chapter_outside ns q = is_some_and (chapter_too_long ns) (chapter.field_of ns q)

lacks_same : (ns : List Node) (q : Node) → chapter_lacks ns q ≡ lacks_store (is_known ns) q
lacks_same ns q = ap (λ (b : Bool). not (question_store q.op == 0) && not b) (known_same ns (question_store q.op))

past_same : (f : Field) (size : Option ℕ) → is_some_and (λ size. nat_lt size (f.offset + f.width)) size ≡ is_past f size
past_same f None = refl
past_same f (Some size) = refl

outside_of : (ns : List Node) (f : Option Field) → is_some_and (chapter_too_long ns) (option_map field_for f) ≡ is_field_outside (layout_of ns) f
outside_of ns None = refl
outside_of ns (Some f) =
    ap (λ (size : Option ℕ). is_some_and (λ size. nat_lt size (f.offset + f.width)) size) (size_of_same ns f.store)
    ∙ past_same f (size_of (layout_of ns) f.store)

outside_same : (ns : List Node) (q : Node) → chapter_outside ns q ≡ is_field_outside (layout_of ns) (field_of ns q)
outside_same ns q = ap (λ (f : Option chapter.Field). is_some_and (chapter_too_long ns) f) (field_same ns q) ∙ outside_of ns (field_of ns q)

-- ---- the tests of an option

-- as the chapters have them
abbrev chapter_too_large : Node → Node → Bool
chapter_too_large q o = number q.op == ONE_OF && nat_le (256 ^ number_width (numeric_flags q.op)) (chapter.option_value o)

abbrev chapter_mixed : Node → Node → List Node → Bool
chapter_mixed q o os =
    number q.op == ORDERED_LIST && is_some_and (λ p. not (chapter.option_type o == chapter.option_type p)) (first os)

large_same : (q o : Node) → chapter_too_large q o ≡ is_option_too_large q o
large_same q o =
    ap (λ v. number q.op == ONE_OF && nat_le (256 ^ one_of_width q.op) v) (value_same o)

other_type : (o : Node) (os : List Node) → is_some_and (λ p. not (chapter.option_type o == chapter.option_type p)) (first os) ≡ is_of_another_type (first_kind os) (option_kind o.op)
other_type o [] = refl
other_type o (p ∷ os) = refl

mixed_same : (q o : Node) → is_question q ≡ true → chapter_mixed q o (chapter_nodes.options q) ≡ is_mixed q o
mixed_same q o is =
    ap (chapter_mixed q o) (options_same q is)
    ∙ ap (λ (b : Bool). number q.op == ORDERED_LIST && b) (other_type o (options q))

-- ---- the faults of a question and of its options

-- two causes at a place, each where a test holds
abbrev two : Bool → Cause → Bool → Cause → ℕ → List Fault
two a d b e place = fault_if a (cause_for d) place ++ fault_if b (cause_for e) place

-- as the chapters have them
abbrev chapter_option : Node → Node → List Fault
chapter_option q o = two (chapter_too_large q o) OptionRange (chapter_mixed q o (chapter_nodes.options q)) MixedOptions o.place

abbrev chapter_question : List Node → Node → List Fault
chapter_question ns q =
    two (chapter_lacks ns q) UnknownVarstore (chapter_outside ns q) FieldOutside q.place
    ++ flat_map (chapter_option q) (chapter_nodes.options q)

-- as the contracts test them
abbrev old_option : Node → Node → List Fault
old_option q o = two (is_option_too_large q o) OptionRange (is_mixed q o) MixedOptions o.place

abbrev part_faults : List Node → QuestionPart → List Fault
part_faults ns (itself q) = two (lacks_store (is_known ns) q.node) UnknownVarstore (is_field_outside (layout_of ns) q.field) FieldOutside q.node.place
part_faults ns (option q o) = old_option q.node o

option_same : (q : Node) → is_question q ≡ true → (o : Node) → chapter_option q o ≡ old_option q o
option_same q is o =
    ap (λ (b : Bool). two b OptionRange (chapter_mixed q o (chapter_nodes.options q)) MixedOptions o.place) (large_same q o)
    ∙ ap (λ (b : Bool). two (is_option_too_large q o) OptionRange b MixedOptions o.place) (mixed_same q o is)

options_alike : (ns : List Node) (q : Node) → is_question q ≡ true → flat_map (chapter_option q) (chapter_nodes.options q) ≡ flat_map (part_faults ns) (map (option (asked ns q)) (options q))
options_alike ns q is =
    ap (flat_map (chapter_option q)) (options_same q is)
    ∙ same_flat (chapter_option q) (old_option q) (options q) (option_same q is)
    ∙ sym (flat_map-map (part_faults ns) (option (asked ns q)) (options q))

question_alike : (ns : List Node) (q : Node) → is_question q ≡ true → chapter_question ns q ≡ flat_map (part_faults ns) (parts_of (asked ns q))
question_alike ns q is =
    let behind : List Fault = flat_map (chapter_option q) (chapter_nodes.options q) in
    ap (λ (b : Bool). two b UnknownVarstore (chapter_outside ns q) FieldOutside q.place ++ behind) (lacks_same ns q)
    ∙ ap (λ (b : Bool). two (lacks_store (is_known ns) q) UnknownVarstore b FieldOutside q.place ++ behind) (outside_same ns q)
    ∙ ap (λ (l : List Fault). part_faults ns (itself (asked ns q)) ++ l) (options_alike ns q is)

-- with those behind it
with_rest : (ns rest : List Node) (q : Node) → is_question q ≡ true → flat_map (chapter_question ns) rest ≡ flat_map (part_faults ns) (flat_map parts_of (map (asked ns) rest))
    → flat_map (chapter_question ns) (q ∷ rest) ≡ flat_map (part_faults ns) (flat_map parts_of (map (asked ns) (q ∷ rest)))
with_rest ns rest q is same =
    ap (λ (l : List Fault). l ++ flat_map (chapter_question ns) rest) (question_alike ns q is)
    ∙ ap (λ (l : List Fault). flat_map (part_faults ns) (parts_of (asked ns q)) ++ l) same
    ∙ sym (flat_map-append (part_faults ns) (parts_of (asked ns q)) (flat_map parts_of (map (asked ns) rest)))

all_alike : (ns ms : List Node) → flat_map (chapter_question ns) (filter is_question ms) ≡ flat_map (part_faults ns) (flat_map parts_of (map (asked ns) (filter is_question ms)))
all_alike ns [] = refl
all_alike ns (q ∷ ms) = elim (cases_Bool (is_question q)) [
  | inl is ↦ rw is (with_rest ns (filter is_question ms) q is (all_alike ns ms))
  | inr other ↦ rw other (all_alike ns ms)
]

-- ---- a part has the faults of its causes

abbrev OfCause : Bool → Cause → ℕ → Cause → ℕ → Type 0
OfCause test d q c p = (q ≡ p) × (c ≡ d) × (test ≡ true)

are_two : (a : Bool) (d : Cause) (b : Bool) (e : Cause) (q : ℕ) → AreFaults (two a d b e q) (λ c p. OfCause a d q c p ⊎ OfCause b e q c p)
are_two a d b e q = either_kind (fault_if a (cause_for d) q) (fault_if b (cause_for e) q) (OfCause a d q) (OfCause b e q) (if_fault a d q) (if_fault b e q)

-- so it is where a test of causes holds of no other
two_tested : (has : Cause → Bool) (d e : Cause) (q : ℕ) → ((c : Cause) → has c ≡ true → (c ≡ d) ⊎ (c ≡ e)) → AreFaults (two (has d) d (has e) e q) (λ c p. (q ≡ p) × (has c ≡ true))
two_tested has d e q only =
    said_as (two (has d) d (has e) e q) (λ c p. OfCause (has d) d q c p ⊎ OfCause (has e) e q c p) (λ c p. (q ≡ p) × (has c ≡ true))
    (are_two (has d) d (has e) e q) (λ c p. (from c p, λ is. to c p is (only c is.1)))
  where
    from : (c : Cause) (p : ℕ) → OfCause (has d) d q c p ⊎ OfCause (has e) e q c p → (q ≡ p) × (has c ≡ true)
    from c p (inl (at, is, holds)) = (at, ap has is ∙ holds)
    from c p (inr (at, is, holds)) = (at, ap has is ∙ holds)

    to : (c : Cause) (p : ℕ) → (q ≡ p) × (has c ≡ true) → (c ≡ d) ⊎ (c ≡ e) → OfCause (has d) d q c p ⊎ OfCause (has e) e q c p
    to c p is (inl same) = inl (is.0, same, ap has (sym same) ∙ is.1)
    to c p is (inr same) = inr (is.0, same, ap has (sym same) ∙ is.1)

abbrev has_fault : List Node → QuestionPart → Cause → Bool
has_fault ns = has_question_fault (layout_of ns) (is_known ns)

only_field : (ns : List Node) (q : Asked) (c : Cause) → has_fault ns (itself q) c ≡ true → (c ≡ UnknownVarstore) ⊎ (c ≡ FieldOutside)
only_field ns q UnknownVarstore is = inl refl
only_field ns q FieldOutside is = inr refl
only_field ns q _ is = absurd (true≢false (sym is))

only_option : (ns : List Node) (q : Asked) (o : Node) (c : Cause) → has_fault ns (option q o) c ≡ true → (c ≡ OptionRange) ⊎ (c ≡ MixedOptions)
only_option ns q o OptionRange is = inl refl
only_option ns q o MixedOptions is = inr refl
only_option ns q o _ is = absurd (true≢false (sym is))

one_part : (ns : List Node) (x : QuestionPart) → AreFaults (part_faults ns x) (λ c p. (place_of x ≡ p) × (has_fault ns x c ≡ true))
one_part ns (itself q) = two_tested (has_fault ns (itself q)) UnknownVarstore FieldOutside q.node.place (only_field ns q)
one_part ns (option q o) = two_tested (has_fault ns (option q o)) OptionRange MixedOptions o.place (only_option ns q o)

pub same_question_faults : (ns : List Node) → AreFaults (question_faults ns) (IsQuestionFault ns)
same_question_faults ns =
    where_same (IsQuestionFault ns) (ap (flat_map (chapter_question ns)) (questions_same ns) ∙ all_alike ns ns)
    (each_fault (part_faults ns) place_of (has_fault ns) (flat_map parts_of (questions ns)) (one_part ns))
