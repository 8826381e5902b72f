-- Setting a question to a value.
use Rattle.std.proofs.Common.{◌≡◌, ◌⊎◌, ℕ, ◌+◌, ◌<◌, ◌≤◌, Bool, true, false, List, [], length, Option, Some, None, ◌++◌, Result, Ok, Err, refl, sym, ap, ◌∙◌, subst, arith, inl, inr}
use Rattle.std.specs.Prelude.{option_map, if◌then◌else◌}
use Rattle.std.proofs.lemmas.Bool.{cases_lt}
use Rattle.ifr_opcodes.specs.Forest.{Node}
use Rattle.ifr_opcodes.specs.Reading.{tree_of}
use Rattle.ifr_nodes.specs.Accepted.{IsAccepted}
use Rattle.ifr_nodes.specs.code.Checked.{IsNodeOf}
use Rattle.ifr_nodes.specs.Nodes.{nodes_of, is_question}
use Rattle.ifr_nodes.proofs.PlaceLemmas.{is_found}
use Rattle.ifr_nodes.proofs.ViewLemmas.{contains_found}
use Rattle.hii_varstore.specs.Layout.{Shape}
use Rattle.hii_varstore.specs.code.Ranges.{HasRange}
use Rattle.hii_varstore.specs.Stores.{StoreMap, shape_of, with_bytes}
use Rattle.hii_values.specs.Types.{type_of}
use Rattle.hii_values.specs.Inputs.{Offer}
use Rattle.hii_values.specs.declared.denial.DenialKind.{DenialKind}
use Rattle.hii_questions.specs.code.Checks.{Checks, NamesItems, range_of}
use Rattle.hii_questions.specs.Fields as fields
use Rattle.hii_questions.specs.Fields.{Asked, asked, field_of, question_with}
use Rattle.hii_questions.specs.Fits.{fits, fits_field, values_offered}
use Rattle.hii_questions.specs.code.NewBytes.{new_bytes, new_items}
use Rattle.hii_questions.specs.declared.field.Field.{Field}
use Rattle.hii_questions.proofs.LawLemmas.{finds_questions, holds_fields, fits_wide}
use Rattle.guard_policy.specs.Policy.{or_else, fixed, first_closed, inconsistent, unsubmitted}
use Rattle.guard_policy.specs.World.{World}
use Rattle.guard_policy.specs.code.Views.{bytes_of, world}
use Rattle.guard_policy.specs.declared.policy.Policy.{Policy}
use Rattle.guard_policy.specs.code.Answers.{unless}
use Rattle.guard_policy.proofs.DenialLemmas.{none_of, some_of}
use Rattle.guard_policy.specs.declared.denial.Denial.{Denial}
use Rattle.session_steps.specs.Renewed.{named_if}
use Rattle.session_steps.specs.State.{State, world_of, world_with}
use Rattle.kept_conditions.specs.Kept.{KeptMap}
use Rattle.kept_conditions.specs.code.Cache.{put_in}
use Rattle.session_steps.specs.Texts.{ok_text}
use Rattle.session_steps.specs.Step.{accepted, denied, warned_text, set_unless_fixed, set_unless_forbidden, set_question, commit, submitted}
use Rattle.browser_commands.specs.code.Changing.{IsOver, TakesField, SetsQuestion, SetsValue}
use Rattle.session_steps.specs.Opening.{layout_in, IsBrowsable}
use Rattle.browser_commands.specs.code.Standing.{IsQuestionIn}
use Rattle.hii_questions.specs.code.LyingIn.{LiesIn}
use Rattle.session_steps.specs.declared.reply.Reply.TheVariants.{Denied}

-- ---- questions of the package

-- the question that was found, and its field
some_asked : (ns : List Node) (o : Option Node) (q : Asked) → option_map (asked ns) o ≡ Some q → (o ≡ Some q.node) × (q.field ≡ field_of ns q.node)
some_asked ns None q e = absurd cc
some_asked ns (Some n) q e =
    let same : asked ns n ≡ q = cc in
    (ap (λ (x : Asked). Some x.node) same, ap (λ (x : Asked). x.field) (sym same) ∙ ap (λ (x : Asked). field_of ns x.node) same)

with_field_of : (ns : List Node) (q : Asked) → q.field ≡ field_of ns q.node → q ≡ asked ns q.node
with_field_of ns q e = ap (λ (f : Option fields.Field). record { node = q.node; field = f }) e

-- the question of an id
pub is_question_of : (ifr asks : List ℕ) (id : ℕ) (q : Asked) → IsAccepted ifr → asks ≡ ifr → is_question q.node ≡ true → Some q ≡ option_map (asked (nodes_of asks)) (question_with (nodes_of asks) id)
    → IsQuestionIn ifr q × (question_with (nodes_of ifr) id ≡ Some q.node)
is_question_of ifr asks id q accepted same asks_it e =
    let found = some_asked (nodes_of ifr) (question_with (nodes_of ifr) id) q (sym (subst (λ (bytes : List ℕ). Some q ≡ option_map (asked (nodes_of bytes)) (question_with (nodes_of bytes) id)) same e)) in
    let there = finds_questions (nodes_of ifr) id q.node found.0 in (
      record {
        asks = asks_it;
        own = with_field_of (nodes_of ifr) q found.1;
        node = is_found ifr (tree_of ifr) q.node accepted.checked.spelled there.0;
      },
      found.0,
    )

none_asked : (ns : List Node) (o : Option Node) → None ≡ option_map (asked ns) o → o ≡ None
none_asked ns None e = refl
none_asked ns (Some n) e = absurd cc

pub no_question_of : (ifr asks : List ℕ) (id : ℕ) → asks ≡ ifr → None ≡ option_map (asked (nodes_of asks)) (question_with (nodes_of asks) id) → question_with (nodes_of ifr) id ≡ None
no_question_of ifr asks id same e =
    none_asked (nodes_of ifr) (question_with (nodes_of ifr) id) (subst (λ (bytes : List ℕ). None ≡ option_map (asked (nodes_of bytes)) (question_with (nodes_of bytes) id)) same e)

-- the question that a statement is
asked_if : (ns : List Node) (n : Node) (asks : Bool) (q : Asked) → Some q ≡ (if asks then Some (asked ns n) else None) → (asks ≡ true) × (q ≡ asked ns n)
asked_if ns n true q e = (refl, cc)
asked_if ns n false q e = absurd cc

pub is_question_at : (ifr : List ℕ) (n : Node) (q : Asked) → IsNodeOf ifr n → Some q ≡ (if is_question n then Some (asked (nodes_of ifr) n) else None)
    → IsQuestionIn ifr q × (q.node ≡ n) × (is_question n ≡ true)
is_question_at ifr n q node e =
    let is = asked_if (nodes_of ifr) n (is_question n) q e in
    (rw is.1 (record { asks = is.0; own = refl; node = node }), ap (λ (x : Asked). x.node) is.1, is.0)

-- the field of a question lies in its store
pub lies_in : (ifr : List ℕ) (q : Asked) → IsBrowsable ifr → IsQuestionIn ifr q → LiesIn (layout_in ifr) q
lies_in ifr q browsable is = λ f has.
    holds_fields (nodes_of ifr) q.node f browsable.questions (contains_found (nodes_of ifr) q.node.place q.node is.node) is.asks (sym (ap (λ (x : Asked). x.field) is.own) ∙ has)

-- ---- whether it takes a value

pub fixed_question : (s : State) (n : Node) (offer : Offer) (denial : Denial) → unless (fixed (world_of s) n) ≡ Err denial → set_question s (Some n) offer ≡ denied s denial
fixed_question s n offer denial why = let some = some_of (fixed (world_of s) n) denial why in rw some refl

pub free_question : (s : State) (n : Node) (offer : Offer) → unless (fixed (world_of s) n) ≡ Ok tt → set_question s (Some n) offer ≡ set_unless_fixed s n offer None
free_question s n offer free = let none = none_of (fixed (world_of s) n) free in rw none refl

-- a session decides over what its policy does
pub over_world : (policy : Policy) (m : StoreMap) (s : State) → IsOver policy m s → world policy m ≡ world_of s
over_world policy m s over = rw (over.ifr, over.removed, over.working_is) refl

over_with : (policy : Policy) (m new : StoreMap) (s : State) → IsOver policy m s → world policy new ≡ world_with s new
over_with policy m new s over = rw (over.ifr, over.removed) refl

-- what a session has with new bytes in a field
abbrev put : StoreMap → Field → StoreMap
put m new = with_bytes m new.store new.offset (new_bytes new)

-- the field of a question that takes new bytes, and these bytes
record Fits (policy : Policy) (m : StoreMap) (q : Asked) (offer : Offer) (new : Field) : Type 0 where
  field : field_of (nodes_of (bytes_of policy)) q.node ≡ Some (range_of new)
  fit : fits (nodes_of (bytes_of policy)) q.node offer ≡ Ok (new_bytes new)
  range : HasRange (shape_of m) new.store new.offset new.width
  wide : length (new_bytes new) ≡ new.width
  named : values_offered q.node offer ≡ new_items new

fits_there : (policy : Policy) (m : StoreMap) (q : Asked) (offer : Offer) (new : Field) → IsBrowsable (bytes_of policy) → shape_of m ≡ layout_in (bytes_of policy) → IsQuestionIn (bytes_of policy) q
    → Checks q offer (Ok new) → NamesItems q offer new → Fits policy m q offer new
fits_there policy m q offer new browsable laid is checks names =
    let ns = nodes_of (bytes_of policy) in
    let own : q.field ≡ field_of ns q.node = ap (λ (x : Asked). x.field) is.own in
    let field : field_of ns q.node ≡ Some (range_of new) = sym own ∙ checks.1 in
    let there = contains_found ns q.node.place q.node is.node in
    let range : HasRange (shape_of m) new.store new.offset new.width = subst (λ (shape : Shape). HasRange shape new.store new.offset new.width) (sym laid) (holds_fields ns q.node (range_of new) browsable.questions there is.asks field) in
    let fit : fits ns q.node offer ≡ Ok (new_bytes new) = ap (λ f. fits_field (type_of q.node) f offer) (sym own) ∙ checks.0 in
    let wide = fits_wide ns q.node offer (range_of new) (new_bytes new) field fit in
    record {
      field = field;
      fit = fit;
      range = range;
      wide = wide;
      named = sym names;
    }

-- the same in a session
takes_in : (policy : Policy) (m : StoreMap) (q : Asked) (offer : Offer) (new : Field) (s : State) (closed : Option Denial) → Fits policy m q offer new → IsOver policy m s → first_closed (world policy m) q.node (new_items new) ≡ closed
    → set_unless_fixed s q.node offer None ≡ set_unless_forbidden s (put m new) q.node (or_else closed (inconsistent (world_with s (put m new)) q.node))
takes_in policy m q offer new s closed h over those =
    let field : field_of (nodes_of s.ifr) q.node ≡ Some (range_of new) = subst (λ (ifr : List ℕ). field_of (nodes_of ifr) q.node ≡ Some (range_of new)) over.ifr h.field in
    let fit : fits (nodes_of s.ifr) q.node offer ≡ Ok (new_bytes new) = subst (λ (ifr : List ℕ). fits (nodes_of ifr) q.node offer ≡ Ok (new_bytes new)) over.ifr h.fit in
    let closed_too : first_closed (world_of s) q.node (values_offered q.node offer) ≡ closed =
    ap (first_closed (world_of s) q.node) h.named ∙ subst (λ (w : World). first_closed w q.node (new_items new) ≡ closed) (over_world policy m s over) those in
    rw (over.working_is, fit, field, closed_too) refl

pub takes_field : (policy : Policy) (m : StoreMap) (q : Asked) (offer : Offer) (new : Field) → IsBrowsable (bytes_of policy) → shape_of m ≡ layout_in (bytes_of policy) → IsQuestionIn (bytes_of policy) q
    → Checks q offer (Ok new) → NamesItems q offer new → unless (first_closed (world policy m) q.node (new_items new)) ≡ Ok tt → TakesField policy m q offer (Ok new)
takes_field policy m q offer new browsable laid is checks names free =
    let h = fits_there policy m q offer new browsable laid is checks names in
    (h.range, h.wide, checks.1, λ s over. takes_in policy m q offer new s None h over (none_of (first_closed (world policy m) q.node (new_items new)) free))

pub takes_closed : (policy : Policy) (m : StoreMap) (q : Asked) (offer : Offer) (new : Field) (denial : Denial) → IsBrowsable (bytes_of policy) → shape_of m ≡ layout_in (bytes_of policy) → IsQuestionIn (bytes_of policy) q
    → Checks q offer (Ok new) → NamesItems q offer new → unless (first_closed (world policy m) q.node (new_items new)) ≡ Err denial → TakesField policy m q offer (Err denial)
takes_closed policy m q offer new denial browsable laid is checks names why =
    let h = fits_there policy m q offer new browsable laid is checks names in
    λ s over. takes_in policy m q offer new s (Some denial) h over (some_of (first_closed (world policy m) q.node (new_items new)) denial why)

pub takes_nothing : (policy : Policy) (m : StoreMap) (q : Asked) (offer : Offer) (kind : DenialKind) (place : ℕ) → IsQuestionIn (bytes_of policy) q → fits_field (type_of q.node) q.field offer ≡ Err kind → place ≡ q.node.place
    → TakesField policy m q offer (Err record { kind = kind; place = place; message = 0 })
takes_nothing policy m q offer kind place is unfit at = λ s over.
    let fit : fits (nodes_of s.ifr) q.node offer ≡ Err kind = subst (λ (ifr : List ℕ). fits (nodes_of ifr) q.node offer ≡ Err kind) over.ifr (ap (λ f. fits_field (type_of q.node) f offer) (sym (ap (λ (x : Asked). x.field) is.own)) ∙ unfit) in
    rw (fit, at) refl

-- where a byte is that lies in no field
pub outside_of : (new : Field) (at : ℕ) → length (new_bytes new) ≡ new.width → ((new.offset ≤ at) × (at < new.offset + new.width) → ⊥) → (at < new.offset) ⊎ (new.offset + length (new_bytes new) ≤ at)
outside_of new at wide away = elim (cases_lt at new.offset) [
  | inl before ↦ inl before
  | inr from ↦ elim (cases_lt at (new.offset + new.width)) [ inl inside ↦ absurd (away (from, inside)) | inr behind ↦ inr (omega (arith, wide, behind)) ]
]

-- ---- whether it may have the value

pub sets_value : (policy : Policy) (q : Asked) (offer : Offer) (old new : KeptMap) (field : Field) → TakesField policy old.stores q offer (Ok field) → new ≡ put_in old field → inconsistent (world policy new.stores) q.node ≡ None
    → SetsValue policy q offer old new (Ok field)
sets_value policy q offer old new field takes is free = (
  is,
  takes.1,
  takes.2,
  λ s over.
      let now : new.stores ≡ put old.stores field = ap (λ (m : KeptMap). m.stores) is in
      let none : inconsistent (world_with s (put old.stores field)) q.node ≡ None = subst (λ (w : World). inconsistent w q.node ≡ None) (ap (world policy) now ∙ over_with policy old.stores (put old.stores field) s over) free in
      takes.3 s over ∙ ap (set_unless_forbidden s (put old.stores field) q.node) none
      ∙ ap (λ (m : StoreMap). accepted (record s { working = m }) (ok_text ++ warned_text s m q.node)) (sym now),
  takes.0,
)

-- a value that is forbidden
pub denies_value : (policy : Policy) (q : Asked) (offer : Offer) (old new : KeptMap) (field : Field) (denial : Denial) → TakesField policy old.stores q offer (Ok field) → new ≡ old
    → inconsistent (world policy (put old.stores field)) q.node ≡ Some denial → SetsValue policy q offer old new (Err denial)
denies_value policy q offer old new field denial takes is why = (
  is,
  λ s over.
      let some : inconsistent (world_with s (put old.stores field)) q.node ≡ Some denial = subst (λ (w : World). inconsistent w q.node ≡ Some denial) (over_with policy old.stores (put old.stores field) s over) why in
      takes.3 s over ∙ ap (set_unless_forbidden s (put old.stores field) q.node) some,
)

-- a question that takes no value leaves the stores
pub leaves_all : (policy : Policy) (q : Asked) (offer : Offer) (old : KeptMap) (denial : Denial) → TakesField policy old.stores q offer (Err denial) → SetsValue policy q offer old old (Err denial)
leaves_all policy q offer old denial takes = (refl, takes)

-- a question that is not fixed
freed : (policy : Policy) (q : Asked) (offer : Offer) (m : StoreMap) (s : State) → fixed (world policy m) q.node ≡ None → IsOver policy m s → set_question s (Some q.node) offer ≡ set_unless_fixed s q.node offer None
freed policy q offer m s free over = ap (set_unless_fixed s q.node offer) (subst (λ (w : World). fixed w q.node ≡ None) (over_world policy m s over) free)

pub sets_free : (policy : Policy) (q : Asked) (offer : Offer) (old new : KeptMap) (result : Result Field Denial) → fixed (world policy old.stores) q.node ≡ None → SetsValue policy q offer old new result
    → SetsQuestion policy q offer old new result
sets_free policy q offer old new (Ok field) free sets = (sets.0, sets.1, sets.2, λ s over. freed policy q offer old.stores s free over ∙ sets.3 s over, sets.4)
sets_free policy q offer old new (Err denial) free sets = (sets.0, λ s over. freed policy q offer old.stores s free over ∙ sets.1 s over)

-- ---- whether the stores may be submitted

pub submits : (s : State) → unless (unsubmitted (world_of s)) ≡ Ok tt → submitted s ≡ commit s
submits s free = let none = none_of (unsubmitted (world_of s)) free in rw none refl

pub submits_nothing : (s : State) (denial : Denial) → unless (unsubmitted (world_of s)) ≡ Err denial → submitted s ≡ denied s denial
submits_nothing s denial why = let some = some_of (unsubmitted (world_of s)) denial why in rw some refl

-- ---- a command that is denied names no question

pub names_nothing : (o : Option Node) (denial : Denial) → named_if o (Denied denial) ≡ []
names_nothing None denial = refl
names_nothing (Some n) denial = refl
