-- What commands leave as it is.
use Rattle.std.proofs.Common.{◌≡◌, ℕ, zero, suc, ◌+◌, ◌-◌, ◌<◌, ◌≤◌, ◌==◌, ◌&&◌, ◌⊎◌, not, Bool, true, false, cond, Option, Some, None, option_map, Result, Ok, Err, List, [], ◌∷◌, length, map, slice_get, get_or, slice_range, refl, sym, ap, subst, ◌∙◌, arith, inl, inr}
use Rattle.std.specs.Prelude.{Contains, filter, is_none, option_and_then}
use Rattle.std.specs.List.{find, cons_option}
use Rattle.std.specs.Option.{option_or}
use Rattle.std.specs.Cmp.Lexicographic.{same_text}
use Rattle.std.proofs.lemmas.Bool.{cases_Bool, cases_lt, cond-true, cond-false, and_from, and_parts, eqb-true, eqb-false}
use Rattle.std.proofs.lemmas.List.{places}
use Rattle.std.proofs.lemmas.List.Elements.{Contains-append_left, Contains-append_right, Contains-push_cases}
use Rattle.std.proofs.lemmas.Option.{slice_get-get_or, slice_get_past}
use Rattle.ifr_opcodes.specs.Fields.{question_id, reset_default}
use Rattle.ifr_opcodes.specs.Opcode.{number}
use Rattle.ifr_opcodes.specs.declared.codes.TheConstants.{RESET_BUTTON}
use Rattle.ifr_opcodes.specs.Forest.{Node, below, node_at}
use Rattle.ifr_opcodes.specs.Reading.{tree_of}
use Rattle.ifr_nodes.specs.Nodes.{nodes_of, is_question, is_statement, statements}
use Rattle.ifr_scopes.proofs.FormPlaceLemmas.{found}
use Rattle.ifr_index.proofs.OptionsOfLemmas.{passes}
use Rattle.ifr_nodes.proofs.ViewLemmas.{below_within, contains_found, further}
use Rattle.hii_varstore.specs.Stores.{StoreMap, shape_of, are_same_bytes, bytes_of, byte_of}
use Rattle.hii_varstore.proofs.WriteLemmas.{byte_after}
use Rattle.browser_rules.specs.Configuration.{Header, Block}
use Rattle.config_text.specs.Reading.{configuration_in}
use Rattle.config_text.specs.declared.kind.TextKind.TheVariants.{Ask, Tell}
use Rattle.hii_bytes.specs.declared.cause.Cause.{Cause}
use Rattle.hii_values.specs.Types.{is_password}
use Rattle.hii_values.specs.Inputs as inputs
use Rattle.hii_values.specs.Inputs.{Offer, whole, listed, utf8}
use Rattle.hii_values.specs.declared.denial.DenialKind.{DenialKind}
use Rattle.hii_values.specs.declared.denial.DenialKind.TheVariants.{NotButton, Password}
use Rattle.hii_questions.specs.Changes.{field_bytes, with_field}
use Rattle.hii_questions.specs.Fields.{Field, Asked, asked, questions, has_field, field_of, question_with}
use Rattle.hii_questions.specs.Fits.{fits, values_offered}
use Rattle.hii_questions.proofs.FieldLemmas.{passing, have_the_field}
use Rattle.hii_questions.proofs.LawLemmas.{fits_wide}
use Rattle.ifr_defaults.specs.Defaults.{default_of}
use Rattle.guard_policy.specs.Policy.{denied_by, fixed, unsubmitted}
use Rattle.guard_policy.specs.World.{World}
use Rattle.guard_policy.specs.declared.denial.Denial.{Denial}
use Rattle.browser_rules.specs.Script as script
use Rattle.browser_rules.specs.Script.{Command}
use Rattle.session_steps.specs.Configuration.{store_named, block_field, block_bytes, first_question, first_free, question_of_field}
use Rattle.session_steps.specs.State.{State, world_of}
use Rattle.session_steps.specs.Texts.{count_text}
use Rattle.session_steps.specs.Step.{Outcome, Taken, step, denied, form_of, told_why, question_denial, set_question, set_unless_fixed, set_unless_forbidden, set_fitting, value_denial, submit_unless, is_other, is_changed, changed, sources, taken_if, take_offer, take_default, take_each, questions_in, taken, take_defaults, press_unless_fixed, press_statement, row_of_form, set_field, set_block, set_blocks, go_on, route_to, route_reading}
use Rattle.session_steps.specs.declared.reply.Reply.{Reply}
use Rattle.session_steps.specs.declared.reply.Reply.TheVariants.{Accepted, Denied, Refused}
use Rattle.session_steps.specs.Renewed.{named_if, pressed_if}
use Rattle.browser_core.specs.laws.Bytes.{state_with, fields_of, block_fields, response_fields, where_accepted, named_fields, HaveByte, SetsFields, SetsByte, KeepsOtherBytes, ChangesNamedBytesAlone}
use Rattle.rules_laws.proofs.FoundLemmas.{given}
use Rattle.session_steps.proofs.GoLemmas.{LeavesStores, follow_leaves, back_leaves}
use Rattle.browser_core.proofs.RefusedLemmas.{blocks_leave}
use Rattle.session_steps.proofs.RoutedLemmas.{extract_leaves}
use Rattle.browser_core.proofs.SealedLemmas.{element, range_of, length_of, lengths_alike}
use Rattle.session_steps.proofs.KeepLemmas.{set_keeps as set_keeps_package, step_keeps as step_keeps_shapes}

-- ---- one command

-- the stores after a set that was carried out
field_keeps : (s : State) (n : Node) (offer : Offer) (bytes : List ℕ) (store at : ℕ) → fits (nodes_of s.ifr) n offer ≡ Ok bytes → (o : Option Field) → field_of (nodes_of s.ifr) n ≡ o
    → ((field : Field) → field_of (nodes_of s.ifr) n ≡ Some field → store ≡ field.store → field.offset ≤ at → at < field.offset + field.width → ⊥)
    → byte_of (with_field s.working o bytes) store at ≡ byte_of s.working store at
field_keeps s n offer bytes store at fit None is none = refl
field_keeps s n offer bytes store at fit (Some field) is none =
    let wide = fits_wide (nodes_of s.ifr) n offer field bytes is fit in
    byte_after s.working field.store field.offset store at bytes (λ same. elim (cases_lt at field.offset) [
      | inl before ↦ inl before
      | inr from ↦ elim (cases_lt at (field.offset + field.width)) [
        | inl inside ↦ absurd (none field is same from inside)
        | inr behind ↦ inr (omega (arith, wide, behind))
      ]
    ])

forbidden_keeps : (s : State) (new : StoreMap) (n : Node) (store at : ℕ) (o : Option Denial) → ((set_unless_forbidden s new n o).reply ≡ Accepted → byte_of new store at ≡ byte_of s.working store at)
    → byte_of (set_unless_forbidden s new n o).state.working store at ≡ byte_of s.working store at
forbidden_keeps s new n store at (Some denial) keep = refl
forbidden_keeps s new n store at None keep = keep refl

fitting_keeps : (s : State) (n : Node) (offer : Offer) (store at : ℕ) (r : Result (List ℕ) DenialKind) → fits (nodes_of s.ifr) n offer ≡ r
    → ((field : Field) → field_of (nodes_of s.ifr) n ≡ Some field → store ≡ field.store → field.offset ≤ at → at < field.offset + field.width → (set_fitting s n (values_offered n offer) r).reply ≡ Accepted → ⊥)
    → byte_of (set_fitting s n (values_offered n offer) r).state.working store at ≡ byte_of s.working store at
fitting_keeps s n offer store at (Err _) fit none = refl
fitting_keeps s n offer store at (Ok bytes) fit none =
    let new = with_field s.working (field_of (nodes_of s.ifr) n) bytes in
    forbidden_keeps s new n store at (value_denial (world_of s) new n (values_offered n offer))
    (λ ok. field_keeps s n offer bytes store at fit (field_of (nodes_of s.ifr) n) refl (λ field is same from inside. none field is same from inside ok))

unless_keeps : (s : State) (n : Node) (offer : Offer) (store at : ℕ) (o : Option Denial)
    → ((field : Field) → field_of (nodes_of s.ifr) n ≡ Some field → store ≡ field.store → field.offset ≤ at → at < field.offset + field.width → (set_unless_fixed s n offer o).reply ≡ Accepted → ⊥)
    → byte_of (set_unless_fixed s n offer o).state.working store at ≡ byte_of s.working store at
unless_keeps s n offer store at (Some denial) none = refl
unless_keeps s n offer store at None none = fitting_keeps s n offer store at (fits (nodes_of s.ifr) n offer) refl none

set_keeps : (s : State) (offer : Offer) (store at : ℕ) (q : Option Node)
    → ((n : Node) (field : Field) → q ≡ Some n → field_of (nodes_of s.ifr) n ≡ Some field → store ≡ field.store → field.offset ≤ at → at < field.offset + field.width → (set_question s q offer).reply ≡ Accepted → ⊥)
    → byte_of (set_question s q offer).state.working store at ≡ byte_of s.working store at
set_keeps s offer store at None none = refl
set_keeps s offer store at (Some n) none = unless_keeps s n offer store at (fixed (world_of s) n) (λ field is same from inside ok. none n field refl is same from inside ok)

forbidden_submits : (s : State) (new : StoreMap) (n : Node) (o : Option Denial) → (set_unless_forbidden s new n o).state.committed ≡ s.committed
forbidden_submits s new n (Some denial) = refl
forbidden_submits s new n None = refl

fitting_submits : (s : State) (n : Node) (values : List ℕ) (r : Result (List ℕ) DenialKind) → (set_fitting s n values r).state.committed ≡ s.committed
fitting_submits s n values (Err _) = refl
fitting_submits s n values (Ok bytes) =
    let new = with_field s.working (field_of (nodes_of s.ifr) n) bytes in
    forbidden_submits s new n (value_denial (world_of s) new n values)

unless_submits : (s : State) (n : Node) (offer : Offer) (o : Option Denial) → (set_unless_fixed s n offer o).state.committed ≡ s.committed
unless_submits s n offer (Some denial) = refl
unless_submits s n offer None = fitting_submits s n (values_offered n offer) (fits (nodes_of s.ifr) n offer)

set_submits : (s : State) (offer : Offer) (q : Option Node) → (set_question s q offer).state.committed ≡ s.committed
set_submits s offer None = refl
set_submits s offer (Some n) = unless_submits s n offer (fixed (world_of s) n)

-- ---- questions of the package

-- No question of some has the byte.
abbrev NoneHas : List Node → List ℕ → ℕ → ℕ → Type 0
NoneHas qs ifr store at = (n : Node) (field : Field) → Contains qs n → field_of (nodes_of ifr) n ≡ Some field → store ≡ field.store → field.offset ≤ at → at < field.offset + field.width → ⊥

-- No field of these that is a question's has the byte.
abbrev NoneNamed : List ℕ → List Field → ℕ → ℕ → Type 0
NoneNamed ifr fields store at = (n : Node) (field : Field) → Contains (nodes_of ifr) n → is_question n ≡ true → field_of (nodes_of ifr) n ≡ Some field → Contains fields field
    → store ≡ field.store → field.offset ≤ at → at < field.offset + field.width → ⊥

-- Each of some nodes is a question of the package.
abbrev AreQuestions : List ℕ → List Node → Type 0
AreQuestions ifr qs = (n : Node) → Contains qs n → Contains (nodes_of ifr) n × (is_question n ≡ true)

first_field : (o : Option Field) (fields : List Field) (field : Field) → o ≡ Some field → Contains (cons_option o fields) field
first_field None fields field e = absurd cc
first_field (Some other) fields field e = let same : other ≡ field = cc in (0, omega arith, same)

later_field : (o : Option Field) (fields : List Field) (field : Field) → Contains fields field → Contains (cons_option o fields) field
later_field None fields field c = c
later_field (Some other) fields field c = further other fields field c

fields_contain : (ns qs : List Node) (n : Node) (field : Field) → Contains qs n → field_of ns n ≡ Some field → Contains (fields_of ns qs) field
fields_contain ns [] n field (k, lt, e) is = absurd (omega arith)
fields_contain ns (q ∷ qs) n field (zero, lt, e) is = first_field (field_of ns q) (fields_of ns qs) field (ap (field_of ns) e ∙ is)
fields_contain ns (q ∷ qs) n field (suc k, lt, e) is = later_field (field_of ns q) (fields_of ns qs) field (fields_contain ns qs n field (k, omega arith, e) is)

none_has : (ifr : List ℕ) (qs : List Node) (store at : ℕ) → AreQuestions ifr qs → NoneNamed ifr (fields_of (nodes_of ifr) qs) store at → NoneHas qs ifr store at
none_has ifr qs store at are none n field c found here from inside = let it = are n c in none n field it.0 it.1 found (fields_contain (nodes_of ifr) qs n field c found) here from inside

named_is : (o : Option Node) (r : Reply) (n : Node) → Contains (named_if o r) n → o ≡ Some n
named_is None r n (k, lt, e) = absurd (omega arith)
named_is (Some q) Accepted n (zero, lt, e) = ap Some e
named_is (Some q) Accepted n (suc k, lt, e) = absurd (omega arith)
named_is (Some q) (Denied d) n (k, lt, e) = absurd (omega arith)
named_is (Some q) (Refused cause) n (k, lt, e) = absurd (omega arith)

named_contains : (o : Option Node) (n : Node) (r : Reply) → o ≡ Some n → r ≡ Accepted → Contains (named_if o r) n
named_contains o n r named is = rw (named, is) (0, omega arith, refl)

-- the question of an id
named_are : (ifr : List ℕ) (id : ℕ) (r : Reply) → AreQuestions ifr (named_if (question_with (nodes_of ifr) id) r)
named_are ifr id r n c =
    let test : Node → Bool = λ m. is_question m && (question_id m.op == id) in
    let is : question_with (nodes_of ifr) id ≡ Some n = named_is (question_with (nodes_of ifr) id) r n c in
    elim (cases_Bool (id == 0)) [
      | inl no_id ↦ let none : None ≡ Some n = sym (cond-true (id == 0) None (find test (nodes_of ifr)) no_id) ∙ is in absurd cc
      | inr some ↦
          let it = found test (nodes_of ifr) n (sym (cond-false (id == 0) None (find test (nodes_of ifr)) some) ∙ is) in
          (it.0, (and_parts (is_question n) (question_id n.op == id) it.1).0)
    ]

-- the questions of a form of the package
form_questions : (ifr : List ℕ) (place : ℕ) (o : Option Node) → node_at (nodes_of ifr) place ≡ o → AreQuestions ifr (questions_in o)
form_questions ifr place None there n (k, lt, e) = absurd (omega arith)
form_questions ifr place (Some form) there n c =
    let asks = passing is_question (statements form) n c in
    let inside = passing is_statement (below form) n asks.0 in
    (below_within (tree_of ifr) 4 [] form n (contains_found (nodes_of ifr) place form there) inside.0, asks.1)

taken_cases : (qs : List Node) (q n : Node) (r : Reply) → Contains (taken_if qs q r) n → Contains qs n ⊎ (q ≡ n)
taken_cases qs q n Accepted c = Contains-push_cases qs q n c
taken_cases qs q n (Denied d) c = inl c
taken_cases qs q n (Refused cause) c = inl c

offer_cases : (t : Taken) (q n : Node) (o : Option Offer) → Contains (take_offer t q o).questions n → Contains t.questions n ⊎ (q ≡ n)
offer_cases t q n None c = inl c
offer_cases t q n (Some offer) c = taken_cases t.questions q n (set_question t.state (Some q) offer).reply c

each_cases : (class : ℕ) (t : Taken) (qs : List Node) (n : Node) → Contains (take_each class t qs).questions n → Contains t.questions n ⊎ Contains qs n
each_cases class t [] n c = inl c
each_cases class t (q ∷ qs) n c = elim (each_cases class (take_default class t q) qs n c) [
  | inl first ↦ elim (offer_cases t q n (default_of (sources t.state) q class) first) [
    | inl before ↦ inl before
    | inr same ↦ inr (0, omega arith, same)
  ]
  | inr later ↦ inr (further q qs n later)
]

-- the questions that take their defaults
taken_are : (s : State) (class : ℕ) → AreQuestions s.ifr (taken s class).questions
taken_are s class n c = elim (each_cases class record { state = s; questions = [] } (questions_in (form_of s)) n c) [
  | inl none ↦ absurd (omega (arith, none.1))
  | inr within ↦ form_questions s.ifr s.form (form_of s) refl n within
]

pressed_are : (s : State) (o : Option Node) (r : Reply) → AreQuestions s.ifr (pressed_if s o r)
pressed_are s None r n (k, lt, e) = absurd (omega arith)
pressed_are s (Some button) Accepted n c = taken_are s (reset_default button.op) n c
pressed_are s (Some button) (Denied d) n (k, lt, e) = absurd (omega arith)
pressed_are s (Some button) (Refused cause) n (k, lt, e) = absurd (omega arith)

-- one of some questions is this node
abbrev IsOne : List Asked → Node → Type 0
IsOne qs n = (q : Asked) × Contains qs q × (q.node ≡ n)

node_of : (qs : List Asked) (n : Node) (o : Option Asked) → ((q : Asked) → o ≡ Some q → Contains qs q) → option_map (λ (q : Asked). q.node) o ≡ Some n → IsOne qs n
node_of qs n None there e = absurd cc
node_of qs n (Some q) there e = let same : q.node ≡ n = cc in (q, there q refl, same)

first_node : (qs : List Asked) (n : Node) → first_question qs ≡ Some n → IsOne qs n
first_node [] n e = absurd cc
first_node (q ∷ qs) n e = let same : q.node ≡ n = cc in (q, (0, omega arith, refl), same)

either : (o p : Option Node) (n : Node) → option_or o p ≡ Some n → (o ≡ Some n) ⊎ (p ≡ Some n)
either None p n e = inr e
either (Some m) p n e = inl e

-- a question with a field is one of the package that has the field
asked_with : (ns : List Node) (field : Field) (n : Node) → IsOne (filter (has_field field) (questions ns)) n → Contains ns n × (is_question n ≡ true) × (field_of ns n ≡ Some field)
asked_with ns field n one =
    let has = have_the_field (questions ns) field one.0 one.1 in
    let it = given (asked ns) (filter is_question ns) one.0 has.0 in
    let asks = passing is_question ns it.0 it.1 in
    let same : it.0 ≡ n = ap (λ (q : Asked). q.node) it.2 ∙ one.2 in
    let its : field_of ns it.0 ≡ Some field = ap (λ (q : Asked). q.field) it.2 ∙ has.1 in
    subst (λ (m : Node). Contains ns m × (is_question m ≡ true) × (field_of ns m ≡ Some field)) same (asks.0, asks.1, its)

-- the question that a block with a field sets
chosen_there : (w : World) (ns : List Node) (field : Field) (n : Node) → question_of_field w ns field ≡ Some n → Contains ns n × (is_question n ≡ true) × (field_of ns n ≡ Some field)
chosen_there w ns field n e =
    let qs = filter (has_field field) (questions ns) in
    let free : Asked → Bool = λ q. is_none (fixed w q.node) in
    asked_with ns field n (elim (either (first_free w qs) (first_question qs) n e) [
      | inl first ↦ node_of qs n (find free qs) (λ q e. (found free qs q e).0) first
      | inr other ↦ first_node qs n other
    ])

-- ---- bytes that a command leaves

-- The second state has the package and the submitted stores of the first, and the byte in those that commands change.
pub record KeepsByte (s t : State) (store at : ℕ) : Type 0 where
  pub ifr : t.ifr ≡ s.ifr
  pub committed : t.committed ≡ s.committed
  pub working : byte_of t.working store at ≡ byte_of s.working store at

itself : (s : State) (store at : ℕ) → KeepsByte s s store at
itself s store at = record { ifr = refl; committed = refl; working = refl }

-- a command that sets a question
setting_keeps : (s : State) (o : Option Node) (offer : Offer) (store at : ℕ) → NoneHas (named_if o (set_question s o offer).reply) s.ifr store at → KeepsByte s (set_question s o offer).state store at
setting_keeps s o offer store at none = record {
  ifr = (set_keeps_package s offer o).ifr;
  committed = set_submits s offer o;
  working = set_keeps s offer store at o (λ n field is found here from inside ok. none n field (named_contains o n (set_question s o offer).reply is ok) found here from inside);
}

-- ---- defaults

set_grows : (qs : List Node) (q n : Node) (r : Reply) → Contains qs n → Contains (taken_if qs q r) n
set_grows qs q n Accepted c = Contains-append_left qs (q ∷ []) n c
set_grows qs q n (Denied d) c = c
set_grows qs q n (Refused cause) c = c

offer_grows : (t : Taken) (q n : Node) (o : Option Offer) → Contains t.questions n → Contains (take_offer t q o).questions n
offer_grows t q n None c = c
offer_grows t q n (Some offer) c = set_grows t.questions q n (set_question t.state (Some q) offer).reply c

-- those that took their defaults stay so
each_grows : (class : ℕ) (t : Taken) (qs : List Node) (n : Node) → Contains t.questions n → Contains (take_each class t qs).questions n
each_grows class t [] n c = c
each_grows class t (q ∷ qs) n c = each_grows class (take_default class t q) qs n (offer_grows t q n (default_of (sources t.state) q class) c)

taken_contains : (qs : List Node) (q n : Node) (r : Reply) → Some q ≡ Some n → r ≡ Accepted → Contains (taken_if qs q r) n
taken_contains qs q n r same is =
    let e : q ≡ n = cc in
    rw (is, e) (Contains-append_right qs (n ∷ []) n (0, omega arith, refl))

offer_keeps : (t : Taken) (q : Node) (store at : ℕ) (o : Option Offer) → NoneHas (take_offer t q o).questions t.state.ifr store at → KeepsByte t.state (take_offer t q o).state store at
offer_keeps t q store at None none = itself t.state store at
offer_keeps t q store at (Some offer) none = record {
  ifr = (set_keeps_package t.state offer (Some q)).ifr;
  committed = set_submits t.state offer (Some q);
  working = set_keeps t.state offer store at (Some q)
      (λ n field is found here from inside ok. none n field (taken_contains t.questions q n (set_question t.state (Some q) offer).reply is ok) found here from inside);
}

each_keeps : (class : ℕ) (t : Taken) (qs : List Node) (store at : ℕ) → NoneHas (take_each class t qs).questions t.state.ifr store at → KeepsByte t.state (take_each class t qs).state store at
each_keeps class t [] store at none = itself t.state store at
each_keeps class t (q ∷ qs) store at none =
    let next = take_default class t q in
    let first = offer_keeps t q store at (default_of (sources t.state) q class) (λ n field c. none n field (each_grows class next qs n c)) in
    let later = each_keeps class next qs store at (λ n field c found. none n field c (subst (λ (ifr : List ℕ). field_of (nodes_of ifr) n ≡ Some field) first.ifr found)) in
    record { ifr = later.ifr ∙ first.ifr; committed = later.committed ∙ first.committed; working = later.working ∙ first.working }

defaults_keep : (s : State) (class store at : ℕ) → NoneHas (taken s class).questions s.ifr store at → KeepsByte s (take_defaults s class).state store at
defaults_keep s class store at none = each_keeps class record { state = s; questions = [] } (questions_in (form_of s)) store at none

-- ---- a button

unfixed_keeps : (s : State) (button : Node) (store at : ℕ) (o : Option Denial) → NoneHas (pressed_if s (Some button) (press_unless_fixed s button o).reply) s.ifr store at → KeepsByte s (press_unless_fixed s button o).state store at
unfixed_keeps s button store at (Some denial) none = itself s store at
unfixed_keeps s button store at None none = defaults_keep s (reset_default button.op) store at none

abbrev pressed : State → Node → Bool → Outcome
pressed s n is = cond is (press_unless_fixed s n (fixed (world_of s) n)) (denied s (denied_by NotButton n))

button_keeps : (s : State) (n : Node) (store at : ℕ) (is : Bool) → NoneHas (pressed_if s (Some n) (pressed s n is).reply) s.ifr store at → KeepsByte s (pressed s n is).state store at
button_keeps s n store at true none = unfixed_keeps s n store at (fixed (world_of s) n) none
button_keeps s n store at false none = itself s store at

press_keeps : (s : State) (store at : ℕ) (o : Option Node) → NoneHas (pressed_if s o (press_statement s o).reply) s.ifr store at → KeepsByte s (press_statement s o).state store at
press_keeps s store at None none = itself s store at
press_keeps s store at (Some n) none = button_keeps s n store at (number n.op == RESET_BUTTON) none

-- ---- the blocks of a response

password_keeps : (s : State) (q : Node) (bytes : List ℕ) (store at : ℕ) (is : Bool) → NoneHas (named_if (Some q) (cond is (denied s (denied_by Password q)) (set_question s (Some q) (inputs.field bytes))).reply) s.ifr store at
    → KeepsByte s (cond is (denied s (denied_by Password q)) (set_question s (Some q) (inputs.field bytes))).state store at
password_keeps s q bytes store at true none = itself s store at
password_keeps s q bytes store at false none = setting_keeps s (Some q) (inputs.field bytes) store at none

set_field_keeps : (s : State) (o : Option Node) (bytes : List ℕ) (store at : ℕ) → NoneHas (named_if o (set_field s o bytes).reply) s.ifr store at → KeepsByte s (set_field s o bytes).state store at
set_field_keeps s None bytes store at none = itself s store at
set_field_keeps s (Some q) bytes store at none = password_keeps s q bytes store at (is_password q) none

-- the blocks behind the first, where all are set
abbrev AllSet : State → List ℕ → ℕ → State → List Block → Type 0
AllSet before text id s blocks = (set_blocks before text id s blocks).reply ≡ Accepted

next_set : (before s next : State) (text : List ℕ) (id : ℕ) (blocks : List Block) (r : Reply) → (go_on before r (set_blocks before text id next blocks)).reply ≡ Accepted
    → (r ≡ Accepted) × AllSet before text id next blocks
next_set before s next text id blocks Accepted e = (refl, e)
next_set before s next text id blocks (Denied d) e = absurd cc
next_set before s next text id blocks (Refused cause) e = absurd cc

-- the question of a block has its field
block_none : (s : State) (field : Field) (fields : List Field) (r : Reply) (store at : ℕ) → NoneNamed s.ifr (field ∷ fields) store at → NoneHas (named_if (question_of_field (world_of s) (nodes_of s.ifr) field) r) s.ifr store at
block_none s field fields r store at none n f c found here from inside =
    let o = question_of_field (world_of s) (nodes_of s.ifr) field in
    let it = chosen_there (world_of s) (nodes_of s.ifr) field n (named_is o r n c) in
    let both : Some field ≡ Some f = sym it.2 ∙ found in
    let same : field ≡ f = cc in
    none n f it.0 it.1 found (0, omega arith, same) here from inside

blocks_keep : (before s : State) (text : List ℕ) (id : ℕ) (blocks : List Block) (store at : ℕ) → AllSet before text id s blocks → NoneNamed s.ifr (map (block_field id) blocks) store at
    → KeepsByte s (set_blocks before text id s blocks).state store at
blocks_keep before s text id [] store at all none = itself s store at
blocks_keep before s text id (block ∷ blocks) store at all none =
    let next = (set_block s id block).state in
    let fields = map (block_field id) blocks in
    let set = next_set before s next text id blocks (set_block s id block).reply all in
    let o = question_of_field (world_of s) (nodes_of s.ifr) (block_field id block) in
    let first = set_field_keeps s o (block_bytes block) store at (block_none s (block_field id block) fields (set_block s id block).reply store at none) in
    let left : NoneNamed s.ifr fields store at = λ n f there asks found c. none n f there asks found (further (block_field id block) fields f c) in
    let later = blocks_keep before next text id blocks store at set.1 (subst (λ (ifr : List ℕ). NoneNamed ifr fields store at) (sym first.ifr) left) in
    rw set.0 (record { ifr = later.ifr ∙ first.ifr; committed = later.committed ∙ first.committed; working = later.working ∙ first.working })

-- a reply that is not that of a command that is carried out
is_accepted : (r : Reply) → (r ≡ Accepted) ⊎ (r ≡ Accepted → ⊥)
is_accepted Accepted = inl refl
is_accepted (Denied d) = inr (λ e. absurd cc)
is_accepted (Refused cause) = inr (λ e. absurd cc)

routed_keep : (s : State) (blocks : List Block) (store at : ℕ) (o : Option ℕ) → NoneNamed s.ifr (where_accepted (route_to s blocks o).reply (block_fields blocks o)) store at → KeepsByte s (route_to s blocks o).state store at
routed_keep s blocks store at None none = itself s store at
routed_keep s blocks store at (Some id) none =
    let text = count_text (length blocks) in
    let end = set_blocks s text id s blocks in
    elim (is_accepted end.reply) [
      | inl all ↦ blocks_keep s s text id blocks store at all (rw all at none)
      | inr not_all ↦ subst (λ (t : State). KeepsByte s t store at) (sym (blocks_leave s s text id blocks not_all)) (itself s store at)
    ]

route_keeps : (s : State) (r : Result (Header × List Block) Cause) (store at : ℕ) → NoneNamed s.ifr (where_accepted (route_reading s r).reply (response_fields s r)) store at → KeepsByte s (route_reading s r).state store at
route_keeps s (Err cause) store at none = itself s store at
route_keeps s (Ok (named, blocks)) store at none = routed_keep s blocks store at (store_named (nodes_of s.ifr) s.path named) none

-- ---- any command

leaves_keep : (s t : State) (store at : ℕ) → LeavesStores s t → KeepsByte s t store at
leaves_keep s t store at leaves = record { ifr = leaves.ifr; committed = leaves.committed; working = ap (λ m. byte_of m store at) leaves.working }

why_keeps : (s : State) (o : Option Denial) (store at : ℕ) → KeepsByte s (told_why s o).state store at
why_keeps s None store at = itself s store at
why_keeps s (Some denial) store at = itself s store at

-- A command leaves a byte that lies in no field of a question that it sets, or it is submit or discard.
abbrev LeavesOrCopies : State → Command → ℕ → ℕ → Type 0
LeavesOrCopies s command store at = KeepsByte s (step s command).state store at ⊎ ((command ≡ script.Submit) ⊎ (command ≡ script.Discard))

named_keeps : (s : State) (id : ℕ) (offer : Offer) (store at : ℕ)
    → NoneNamed s.ifr (fields_of (nodes_of s.ifr) (named_if (question_with (nodes_of s.ifr) id) (set_question s (question_with (nodes_of s.ifr) id) offer).reply)) store at
    → KeepsByte s (set_question s (question_with (nodes_of s.ifr) id) offer).state store at
named_keeps s id offer store at none =
    let o = question_with (nodes_of s.ifr) id in
    let reply = (set_question s o offer).reply in
    setting_keeps s o offer store at (none_has s.ifr (named_if o reply) store at (named_are s.ifr id reply) none)

step_keeps : (s : State) (command : Command) (store at : ℕ) → (SetsFields command → NoneNamed s.ifr (named_fields s command) store at) → LeavesOrCopies s command store at
step_keeps s script.Page store at none = inl (itself s store at)
step_keeps s (script.Set id value) store at none = inl (named_keeps s id (whole value) store at (none tt))
step_keeps s (script.Order id numbers) store at none = inl (named_keeps s id (listed numbers) store at (none tt))
step_keeps s (script.Text id text) store at none = inl (named_keeps s id (utf8 text) store at (none tt))
step_keeps s (script.Go id) store at none = inl (leaves_keep s _ store at (follow_leaves s (question_with (nodes_of s.ifr) id)))
step_keeps s script.Back store at none = inl (leaves_keep s _ store at (back_leaves s (slice_get s.history (length s.history - 1))))
step_keeps s (script.Press row) store at none =
    let o = row_of_form s row (form_of s) in
    inl (press_keeps s store at o (none_has s.ifr (pressed_if s o (press_statement s o).reply) store at (pressed_are s o (press_statement s o).reply) (none tt)))
step_keeps s (script.Defaults class) store at none = inl (defaults_keep s class store at (none_has s.ifr (taken s class).questions store at (taken_are s class) (none tt)))
step_keeps s (script.Extract request) store at none = inl (leaves_keep s _ store at (extract_leaves s (configuration_in Ask request)))
step_keeps s (script.Route response) store at none = inl (route_keeps s (configuration_in Tell response) store at (none tt))
step_keeps s (script.Lang language) store at none = inl (record { ifr = refl; committed = refl; working = refl })
step_keeps s (script.Why id) store at none = inl (why_keeps s (question_denial s (question_with (nodes_of s.ifr) id)) store at)
step_keeps s script.Submit store at none = inr (inl refl)
step_keeps s script.Discard store at none = inr (inr refl)

-- ---- bytes that are submitted as they stand

abbrev Keeps : State → State → ℕ → ℕ → Type 0
Keeps s t store at = (byte_of t.working store at ≡ byte_of s.committed store at) × (byte_of t.committed store at ≡ byte_of s.committed store at)

submit_same : (s : State) (o : Option Denial) (store at : ℕ) → byte_of s.working store at ≡ byte_of s.committed store at → Keeps s (submit_unless s o).state store at
submit_same s (Some denial) store at same = (same, refl)
submit_same s None store at same = (same, same)

step_same : (s : State) (command : Command) (store at : ℕ) → byte_of s.working store at ≡ byte_of s.committed store at → (SetsByte s command store at → ⊥) → Keeps s (step s command).state store at
step_same s command store at same none =
    elim (step_keeps s command store at (λ sets n field there asks found c here from inside. none (sets, (field, c, here, from, inside)))) [
      | inl kept ↦ (kept.working ∙ same, ap (λ m. byte_of m store at) kept.committed)
      | inr copies ↦ elim copies [
        | inl e ↦ subst (λ (o : Command). Keeps s (step s o).state store at) (sym e) (submit_same s (unsubmitted (world_of s)) store at same)
        | inr e ↦ subst (λ (o : Command). Keeps s (step s o).state store at) (sym e) (refl, refl)
      ]
    ]

pub keeps : KeepsOtherBytes
keeps s [] store at same none = (same, refl)
keeps s (command ∷ commands) store at same none =
    let first = step_same s command store at same (λ sets. none (inl sets)) in
    let later = keeps (step s command).state commands store at (first.0 ∙ sym first.1) (λ sets. none (inr sets)) in
    (later.0 ∙ first.1, later.1 ∙ first.1)

-- ---- bytes in fields that a command names

-- A question of the package has the byte.
abbrev IsOfQuestion : List ℕ → ℕ → ℕ → Type 0
IsOfQuestion ifr store at = (n : Node) × (field : Field) × Contains (nodes_of ifr) n × (is_question n ≡ true) × (field_of (nodes_of ifr) n ≡ Some field)
    × (store ≡ field.store) × (field.offset ≤ at) × (at < field.offset + field.width)

-- Both stores have one shape, and hold the same where no question has a byte.
record IsApart (s : State) : Type 0 where
  shapes : shape_of s.committed ≡ shape_of s.working
  same : (store at : ℕ) → (IsOfQuestion s.ifr store at → ⊥) → byte_of s.working store at ≡ byte_of s.committed store at

submit_apart : (s : State) (o : Option Denial) (store at : ℕ) → byte_of s.working store at ≡ byte_of s.committed store at → byte_of (submit_unless s o).state.working store at ≡ byte_of (submit_unless s o).state.committed store at
submit_apart s (Some denial) store at same = same
submit_apart s None store at same = refl

same_after : (s : State) (command : Command) (store at : ℕ) → IsApart s → (IsOfQuestion s.ifr store at → ⊥) → byte_of (step s command).state.working store at ≡ byte_of (step s command).state.committed store at
same_after s command store at apart none =
    let same = apart.same store at none in
    elim (step_keeps s command store at (λ sets n field there asks found c here from inside. none (n, field, there, asks, found, here, from, inside))) [
      | inl kept ↦ kept.working ∙ same ∙ ap (λ m. byte_of m store at) (sym kept.committed)
      | inr copies ↦ elim copies [
        | inl e ↦ subst (λ (o : Command). byte_of (step s o).state.working store at ≡ byte_of (step s o).state.committed store at) (sym e) (submit_apart s (unsubmitted (world_of s)) store at same)
        | inr e ↦ subst (λ (o : Command). byte_of (step s o).state.working store at ≡ byte_of (step s o).state.committed store at) (sym e) refl
      ]
    ]

apart_after : (s : State) (commands : List Command) → IsApart s → IsApart (state_with s commands)
apart_after s [] apart = apart
apart_after s (command ∷ commands) apart =
    let shapes = step_keeps_shapes s command apart.shapes in
    apart_after (step s command).state commands (record {
      shapes = shapes.committed ∙ apart.shapes ∙ sym shapes.working;
      same = λ store at none. same_after s command store at apart (λ is. none (subst (λ (ifr : List ℕ). IsOfQuestion ifr store at) (sym shapes.ifr) is));
    })

-- where two ranges hold the same, so does each byte of them
get_same : (xs ys : List ℕ) (offset width at : ℕ) → length xs ≡ length ys → slice_range xs offset (offset + width) ≡ slice_range ys offset (offset + width) → offset ≤ at → at < offset + width → slice_get xs at ≡ slice_get ys at
get_same xs ys offset width at lengths same from inside = elim (cases_lt at (length xs)) [
  | inl here ↦
      let there : at < length ys = omega (arith, lengths, here) in
      let seam : offset + (at - offset) ≡ at = omega (arith, from) in
      let within : at - offset < length (slice_range xs offset (offset + width)) = grind (arith, places) in
      slice_get-get_or xs at 0 here ∙ ap Some (ap (λ k. get_or xs k 0) (sym seam) ∙ element xs ys offset width (at - offset) 0 lengths same within ∙ ap (λ k. get_or ys k 0) seam) ∙ sym (slice_get-get_or ys at 0 there)
  | inr past ↦
      let behind : length ys ≤ at = omega (arith, lengths, past) in
      slice_get_past xs at past ∙ sym (slice_get_past ys at behind)
]

range_same : (o p : Option (List ℕ)) (offset width at : ℕ) → length_of o ≡ length_of p → are_same_bytes (range_of o offset width) (range_of p offset width) ≡ true → offset ≤ at → at < offset + width
    → option_and_then (λ (bytes : List ℕ). slice_get bytes at) o ≡ option_and_then (λ (bytes : List ℕ). slice_get bytes at) p
range_same None None offset width at lengths same from inside = refl
range_same None (Some ys) offset width at lengths same from inside = absurd cc
range_same (Some xs) None offset width at lengths same from inside = absurd cc
range_same (Some xs) (Some ys) offset width at lengths same from inside =
    let as_long : length xs ≡ length ys = cc in
    get_same xs ys offset width at as_long (same_text (slice_range xs offset (offset + width)) (slice_range ys offset (offset + width)) (sym same)) from inside

not_false : (b : Bool) → not b ≡ false → b ≡ true
not_false true e = refl
not_false false e = absurd cc

one_byte : (a b : Option ℕ) → (a ≡ b) ⊎ (a ≡ b → ⊥)
one_byte None None = inl refl
one_byte None (Some y) = inr (λ e. absurd cc)
one_byte (Some x) None = inr (λ e. absurd cc)
one_byte (Some x) (Some y) = elim (cases_Bool (x == y)) [
  | inl same ↦ inl (ap Some (eqb-true x y same))
  | inr other ↦ inr (λ e. let same : x ≡ y = cc in eqb-false x y other same)
]

-- a question whose field has a byte that differs is changed
other_there : (s : State) (n : Node) (field : Field) (store at : ℕ) → shape_of s.committed ≡ shape_of s.working → field_of (nodes_of s.ifr) n ≡ Some field → store ≡ field.store → field.offset ≤ at → at < field.offset + field.width
    → (byte_of s.working store at ≡ byte_of s.committed store at → ⊥) → is_other s n ≡ true
other_there s n field store at shapes found here from inside differ = elim (cases_Bool (is_other s n)) [
  | inl is ↦ is
  | inr not_it ↦
      let alike = not_false (are_same_bytes (field_bytes s.committed (field_of (nodes_of s.ifr) n)) (field_bytes s.working (field_of (nodes_of s.ifr) n))) not_it in
      let in_field : are_same_bytes (field_bytes s.committed (Some field)) (field_bytes s.working (Some field)) ≡ true =
      subst (λ (o : Option Field). are_same_bytes (field_bytes s.committed o) (field_bytes s.working o) ≡ true) found alike in
      let same : byte_of s.committed field.store at ≡ byte_of s.working field.store at =
      range_same (bytes_of s.committed field.store) (bytes_of s.working field.store) field.offset field.width at (lengths_alike s.committed s.working field.store shapes) in_field from inside in
      absurd (differ (subst (λ (id : ℕ). byte_of s.working id at ≡ byte_of s.committed id at) (sym here) (sym same)))
]

-- a byte in no field of a question that is changed
unchanged_byte : (s : State) (store at : ℕ) → IsApart s → (HaveByte (fields_of (nodes_of s.ifr) (changed s)) store at → ⊥) → byte_of s.working store at ≡ byte_of s.committed store at
unchanged_byte s store at apart none = elim (one_byte (byte_of s.working store at) (byte_of s.committed store at)) [
  | inl same ↦ same
  | inr differ ↦ absurd (differ (apart.same store at (λ is.
      let n = is.0 in
      let field = is.1 in
      let other = other_there s n field store at apart.shapes is.4 is.5 is.6 is.7 differ in
      let among = passes (is_changed s) (nodes_of s.ifr) n is.2 (and_from (is_question n) (is_other s n) is.3 other) in
      none (field, fields_contain (nodes_of s.ifr) (changed s) n field among is.4, is.5, is.6, is.7))))
]

-- Both stores of the second state hold a byte as those of the first.
abbrev Stays : State → State → ℕ → ℕ → Type 0
Stays s t store at = (byte_of t.working store at ≡ byte_of s.working store at) × (byte_of t.committed store at ≡ byte_of s.committed store at)

submit_stays : (s : State) (o : Option Denial) (store at : ℕ) → IsApart s → (HaveByte (where_accepted (submit_unless s o).reply (fields_of (nodes_of s.ifr) (changed s))) store at → ⊥) → Stays s (submit_unless s o).state store at
submit_stays s (Some denial) store at apart none = (refl, refl)
submit_stays s None store at apart none = (refl, unchanged_byte s store at apart none)

step_stays : (s : State) (command : Command) (store at : ℕ) → IsApart s → (HaveByte (named_fields s command) store at → ⊥) → Stays s (step s command).state store at
step_stays s command store at apart none =
    elim (step_keeps s command store at (λ sets n field there asks found c here from inside. none (field, c, here, from, inside))) [
      | inl kept ↦ (kept.working, ap (λ m. byte_of m store at) kept.committed)
      | inr copies ↦ elim copies [
        | inl e ↦
            let unnamed = subst (λ (o : Command). HaveByte (named_fields s o) store at → ⊥) e none in
            subst (λ (o : Command). Stays s (step s o).state store at) (sym e) (submit_stays s (unsubmitted (world_of s)) store at apart unnamed)
        | inr e ↦
            let unnamed = subst (λ (o : Command). HaveByte (named_fields s o) store at → ⊥) e none in
            subst (λ (o : Command). Stays s (step s o).state store at) (sym e) (sym (unchanged_byte s store at apart unnamed), refl)
      ]
    ]

pub changes_alone : ChangesNamedBytesAlone
changes_alone start commands command store at same none =
    let apart : IsApart start = record { shapes = ap shape_of same; same = λ id k none. ap (λ m. byte_of m id k) (sym same) } in
    step_stays (state_with start commands) command store at (apart_after start commands apart) none
