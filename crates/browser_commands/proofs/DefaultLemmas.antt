-- The questions of a form take their defaults, one after the other.
use Rattle.std.proofs.Common.{◌≡◌, ℕ, ◌+◌, Bool, true, false, cond, List, [], ◌∷◌, ◌++◌, length, refl, sym, ap, ◌∙◌, subst, arith, append-nil, append_assoc, length-append, Option, Some, Ok, Err, inl, inr}
use Rattle.std.specs.Prelude.{filter}
use Rattle.std.proofs.lemmas.Bool.{cases_Bool, cond-true}
use Rattle.ifr_opcodes.specs.Forest.{Node}
use Rattle.ifr_opcodes.specs.Opcode.{number}
use Rattle.ifr_opcodes.proofs.StatementLemmas.{question_is_statement}
use Rattle.ifr_nodes.specs.Nodes.{nodes_of, is_question, statements}
use Rattle.ifr_index.specs.code.Giving.{is_giving}
use Rattle.ifr_scopes.specs.code.Lists.{form_node}
use Rattle.hii_languages.specs.code.Views.{choice_of}
use Rattle.ifr_defaults.specs.Defaults as defaults
use Rattle.ifr_defaults.specs.Defaults.{default_of}
use Rattle.ifr_defaults.specs.code.DefaultSources.{IsSource, gives}
use Rattle.ifr_defaults.specs.declared.defaults.DefaultSource.{DefaultSource}
use Rattle.ifr_defaults.proofs.NoSourceLemmas.{no_default}
use Rattle.ifr_defaults.proofs.SourceLemmas.{gives_default}
use Rattle.hii_varstore.specs.Stores.{StoreMap, shape_of}
use Rattle.hii_values.specs.Inputs.{Offer}
use Rattle.hii_questions.specs.Fields as fields
use Rattle.hii_questions.specs.Fields.{Asked, field_of}
use Rattle.hii_questions.specs.code.Checks.{range_of}
use Rattle.hii_questions.specs.declared.field.Field.{Field}
use Rattle.guard_policy.specs.code.Views.{bytes_of}
use Rattle.guard_policy.specs.declared.denial.Denial.{Denial}
use Rattle.kept_conditions.specs.Kept.{KeptMap, counted}
use Rattle.kept_conditions.specs.Touching.{range_of_field, renewals}
use Rattle.session_steps.specs.Renewed.{Shown, Write, field_write, field_writes, write_of}
use Rattle.session_steps.specs.State.{State}
use Rattle.session_steps.specs.Step.{Taken, questions_in, sources, take_default, take_each, take_offer, take_set, taken}
use Rattle.browser_commands.specs.code.Changing.{IsBrowsed, SetsQuestion}
use Rattle.browser_commands.specs.code.Counting.{counted_all}
use Rattle.browser_commands.specs.code.Defaulting.{nodes_in, sources_over, AreOver, take_statement, TakesDefault, TakeDefaults}
use Rattle.browser_commands.specs.code.Standing.{IsQuestionIn}
use Rattle.browser_commands.specs.declared.sources.Sources.{Sources}
use Rattle.browser_commands.specs.declared.browser.Browser.TheInside.{Inside}
use Rattle.browser_commands.proofs.Browsers.{IsStanding, shown_in, state_in, with_stores}
use Rattle.browser_commands.proofs.CountLemmas.{counted_all-append}

-- ---- one statement

-- a session's defaults are taken from its sources
session_sources : (it : Sources) (m : StoreMap) (s : State) → AreOver it m s → sources_over it m ≡ sources s
session_sources it m s its = rw (its.over.ifr, its.over.working_is, its.spoken, its.language) refl

session_default : (it : Sources) (class : ℕ) (n : Node) (source : DefaultSource) (m : StoreMap) (s : State) → AreOver it m s → IsSource n class (Some source) → default_of (sources s) n class ≡ gives (sources_over it m) n source
session_default it class n source m s its is = gives_default (sources s) n class source is ∙ ap (λ (from : defaults.Sources). gives from n source) (sym (session_sources it m s its))

-- a question is set to its default
taking : (it : Sources) (class : ℕ) (n : Node) (source : DefaultSource) (offer : Offer) (m : StoreMap) (s : State) (qs : List Node) → AreOver it m s → is_question n ≡ true → IsSource n class (Some source) → gives (sources_over it m) n source ≡ Some offer
    → take_statement class record { state = s; questions = qs } n ≡ take_offer record { state = s; questions = qs } n (Some offer)
taking it class n source offer m s qs its asks is gave =
    let t : Taken = record { state = s; questions = qs } in
    cond-true (is_question n) (take_default class t n) t asks ∙ ap (take_offer t n) (session_default it class n source m s its is ∙ gave)

-- which it may not have,
pub takes_denied : (it : Sources) (class : ℕ) (q : Asked) (source : DefaultSource) (offer : Offer) (old new : KeptMap) (denial : Denial) → is_question q.node ≡ true → IsSource q.node class (Some source) → gives (sources_over it old.stores) q.node source ≡ Some offer
    → SetsQuestion it.policy q offer old new (Err denial) → TakesDefault it class q.node old new false
takes_denied it class q source offer old new denial asks is gave sets = record {
  leaves = λ s qs its.
      let kept : s.working ≡ new.stores = sym its.over.working_is ∙ ap (λ (m : KeptMap). m.stores) (sym sets.0) in
      taking it class q.node source offer old.stores s qs its asks is gave ∙ ap (take_set qs q.node) (sets.1 s its.over)
      ∙ ap (λ (m : StoreMap). record { state = record s { working = m }; questions = qs }) kept;
  renewed = ap (λ (m : KeptMap). m.renewed) sets.0;
  same_package = ap (λ (m : KeptMap). m.ifr) sets.0;
  shape = ap (λ (m : KeptMap). shape_of m.stores) sets.0;
}

-- or may
pub takes_set : (it : Sources) (class : ℕ) (q : Asked) (source : DefaultSource) (offer : Offer) (old new : KeptMap) (field : Field) → IsQuestionIn (bytes_of it.policy) q → IsBrowsed it.policy old → IsSource q.node class (Some source)
    → gives (sources_over it old.stores) q.node source ≡ Some offer → SetsQuestion it.policy q offer old new (Ok field) → shape_of new.stores ≡ shape_of old.stores → TakesDefault it class q.node old new true
takes_set it class q source offer old new field own browsed is gave sets shape =
    let n = q.node in
    let has : field_of (nodes_in it) n ≡ Some (range_of field) = sym (ap (λ (x : Asked). x.field) own.own) ∙ sets.2 in
    record {
      leaves = λ s qs its. taking it class n source offer old.stores s qs its own.asks is gave ∙ ap (take_set qs n) (sets.3 s its.over);
      renewed = ap (λ (m : KeptMap). m.renewed) sets.0 ∙ ap (λ (ifr : List ℕ). counted old.renewed (renewals (nodes_of ifr) (range_of_field (range_of field)))) browsed.its_package
          ∙ sym (ap (λ (f : Option fields.Field). counted_all old.renewed (nodes_in it) (write_of f)) has);
      same_package = ap (λ (m : KeptMap). m.ifr) sets.0;
      shape = shape;
    }

-- ---- one after the other

-- the first statement, which may be a question
first_taken : (class : ℕ) (t : Taken) (n : Node) (ns : List Node) → take_each class t (filter is_question (n ∷ ns)) ≡ take_each class (take_statement class t n) (filter is_question ns)
first_taken class t n ns = go (is_question n)
  where
    go : (b : Bool) → take_each class t (cond b (n ∷ filter is_question ns) (filter is_question ns)) ≡ take_each class (cond b (take_default class t n) t) (filter is_question ns)
    go true = refl
    go false = refl

-- the writes of some questions and of one more
one_more : (ns qs : List Node) (n : Node) → field_writes ns (qs ++ n ∷ []) ≡ field_writes ns qs ++ field_write ns n
one_more ns [] n = append-nil (field_write ns n)
one_more ns (q ∷ qs) n = ap (λ (ws : List Write). field_write ns q ++ ws) (one_more ns qs n) ∙ sym (append_assoc (field_write ns q) (field_writes ns qs) (field_write ns n))

-- a session with other working stores
still_over : (it : Sources) (old new : StoreMap) (s : State) → AreOver it old s → AreOver it new (record s { working = new })
still_over it old new s its = record {
  over = record { ifr = its.over.ifr; removed = its.over.removed; working_is = refl };
  spoken = its.spoken;
  language = its.language;
}

pub takes_next : (it : Sources) (class : ℕ) (ns : List Node) (n : Node) (rest left : List Node) (start old new : KeptMap) (count : ℕ) (took : Bool) → left ≡ n ∷ rest → TakesDefault it class n old new took → TakeDefaults it class ns left start old count
    → TakeDefaults it class ns rest start new (cond took (count + 1) count)
takes_next it class ns n rest left start old new count took e takes h =
    let qs = h.questions in
    let nodes = nodes_in it in
    record {
      questions = cond took (qs ++ n ∷ []) qs;
      counted = counted_next took;
      leaves = λ s its.
          let t : Taken = record { state = record s { working = old.stores }; questions = qs } in
          h.leaves s its ∙ ap (λ (l : List Node). take_each class t (filter is_question l)) e ∙ first_taken class t n rest
          ∙ ap (λ (t : Taken). take_each class t (filter is_question rest)) (takes.leaves (record s { working = old.stores }) qs (still_over it start.stores old.stores s its));
      renewed = takes.renewed ∙ ap (λ (k : ℕ). counted_all k nodes (cond took (field_write nodes n) [])) h.renewed ∙ sym (counted_all-append start.renewed nodes (field_writes nodes qs) (cond took (field_write nodes n) []))
          ∙ ap (counted_all start.renewed nodes) (sym (writes_next took));
      same_package = takes.same_package ∙ h.same_package;
      shape = takes.shape ∙ h.shape;
    }
  where
    counted_next : (t : Bool) → length (cond t (h.questions ++ n ∷ []) h.questions) ≡ cond t (count + 1) count
    counted_next true = let more = length-append h.questions (n ∷ []) in let so_far = h.counted in omega (arith, more, so_far)
    counted_next false = h.counted

    writes_next : (t : Bool) → field_writes (nodes_in it) (cond t (h.questions ++ n ∷ []) h.questions) ≡ field_writes (nodes_in it) h.questions ++ cond t (field_write (nodes_in it) n) []
    writes_next true = one_more (nodes_in it) h.questions n
    writes_next false = sym (append-nil (field_writes (nodes_in it) h.questions))

-- those that do not give a default leave everything as it is
giving_taken : (class : ℕ) (t : Taken) (ns : List Node) → take_each class t (filter is_question (filter is_giving ns)) ≡ take_each class t (filter is_question ns)
giving_taken class t [] = refl
giving_taken class t (n ∷ ns) = elim (cases_Bool (is_question n)) [
  | inl asks ↦ elim (cases_Bool (is_giving n)) [
    | inl is ↦ rw (is, asks) (giving_taken class (take_default class t n) ns)
    | inr other ↦
        let stays : take_default class t n ≡ t = ap (take_offer t n) (no_default (sources t.state) n class (question_is_statement (number n.op) asks) other) in
        rw (other, asks) (giving_taken class t ns ∙ ap (λ (u : Taken). take_each class u (filter is_question ns)) (sym stays))
  ]
  | inr plain ↦ elim (cases_Bool (is_giving n)) [
    | inl is ↦ rw (is, plain) (giving_taken class t ns)
    | inr other ↦ rw (other, plain) (giving_taken class t ns)
  ]
]

pub takes_giving : (it : Sources) (class : ℕ) (ns : List Node) (start now : KeptMap) (count : ℕ) → TakeDefaults it class (filter is_giving ns) [] start now count → TakeDefaults it class ns [] start now count
takes_giving it class ns start now count h = record {
  questions = h.questions;
  counted = h.counted;
  leaves = λ s its. sym (giving_taken class record { state = s; questions = [] } ns) ∙ h.leaves s its;
  renewed = h.renewed;
  same_package = h.same_package;
  shape = h.shape;
}

-- it is still the package's
pub still_browsed : (it : Sources) (class : ℕ) (ns left : List Node) (old new : KeptMap) (count : ℕ) → IsBrowsed it.policy old → TakeDefaults it class ns left old new count → IsBrowsed it.policy new
still_browsed it class ns left old new count browsed h = record {
  browsable = browsed.browsable;
  its_package = h.same_package ∙ browsed.its_package;
  laid = h.shape ∙ browsed.laid;
}

-- ---- in a browser

-- its sources
pub sources_in : (it : Sources) (core : Inside) → bytes_of it.policy ≡ core.forms → it.policy.removed.now ≡ core.removed → it.languages.now ≡ core.languages → choice_of it.language ≡ choice_of core.language
    → AreOver it core.working.stores (state_in core)
sources_in it core ifr removed spoken language = record {
  over = record { ifr = ifr; removed = removed; working_is = refl };
  spoken = spoken;
  language = language;
}

-- what it leaves when the questions of its form have taken their defaults
abbrev pub Leaves : Shown → ℕ → Shown → ℕ → Type 0
Leaves s class now count =
    (now.state ≡ (taken s.state class).state) × (count ≡ length (taken s.state class).questions)
    × (now.renewed ≡ counted_all s.renewed (nodes_of s.state.ifr) (field_writes (nodes_of s.state.ifr) (taken s.state class).questions))

pub takes_all : (it : Sources) (core : Inside) (s : Shown) (class : ℕ) (now : KeptMap) (count : ℕ) → shown_in core ≡ s → IsStanding core → bytes_of it.policy ≡ core.forms → AreOver it core.working.stores (state_in core)
    → TakeDefaults it class (statements (form_node core.form)) [] core.working now count → Leaves s class (with_stores core now) count
takes_all it core s class now count same stands ifr its h =
    let start : Taken = record { state = state_in core; questions = [] } in
    let left : Taken = record { state = record (state_in core) { working = now.stores }; questions = h.questions } in
    let is : left ≡ taken (state_in core) class = sym (h.leaves (state_in core) its) ∙ sym (ap (λ (form : Option Node). take_each class start (questions_in form)) stands.node) in
    subst (λ (t : Shown). Leaves t class (with_stores core now) count) same (
      ap (λ (t : Taken). t.state) is,
      sym h.counted ∙ ap (λ (t : Taken). length t.questions) is,
      h.renewed ∙ ap (λ (bytes : List ℕ). counted_all core.working.renewed (nodes_of bytes) (field_writes (nodes_of bytes) h.questions)) ifr
          ∙ ap (λ (t : Taken). counted_all core.working.renewed (nodes_of core.forms) (field_writes (nodes_of core.forms) t.questions)) is,
    )
