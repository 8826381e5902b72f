-- Questions that take a value in a form set that is browsed.
use Rattle.std.proofs.Common.{◌≡◌, ℕ, true, List, ◌++◌, Option, Some, None, Result, Ok, Err, refl, sym, ap, subst, ◌∙◌, append-nil}
use Rattle.ifr_opcodes.specs.Forest.{Node}
use Rattle.ifr_nodes.specs.Nodes.{nodes_of}
use Rattle.hii_varstore.specs.Stores.{StoreMap, shape_of}
use Rattle.hii_values.specs.Inputs.{Offer}
use Rattle.hii_questions.specs.Fields as fields
use Rattle.hii_questions.specs.Fields.{Asked, field_of}
use Rattle.hii_questions.specs.code.Checks.{range_of}
use Rattle.hii_questions.specs.declared.field.Field.{Field}
use Rattle.guard_policy.specs.code.Views.{bytes_of}
use Rattle.guard_policy.specs.declared.denial.Denial.{Denial}
use Rattle.guard_policy.specs.declared.policy.Policy.{Policy}
use Rattle.kept_conditions.specs.Kept.{KeptMap, counted}
use Rattle.kept_conditions.specs.Touching.{range_of_field, renewals}
use Rattle.session_steps.specs.Opening.{layout_in, IsBrowsable}
use Rattle.session_steps.specs.Renewed.{Shown, Write, field_write, write_of}
use Rattle.session_steps.specs.State.{State}
use Rattle.session_steps.specs.Step.{Outcome, accepted, no_question, warned_text}
use Rattle.session_steps.specs.Texts.{ok_text}
use Rattle.browser_commands.specs.code.Changing.{IsBrowsed, IsOver, SetsQuestion}
use Rattle.browser_commands.specs.code.Counting.{counted_all}
use Rattle.browser_commands.specs.code.Standing.{Changes, IsQuestionIn, Sets}
use Rattle.browser_commands.specs.declared.browser.Browser.TheInside.{Inside}
use Rattle.browser_commands.proofs.Browsers.{IsStanding, IsStandingWith, seen, shown_in, stands_with, state_in, with_stores}

-- a policy over the package of a browser decides over its state
pub over : (policy : Policy) (core : Inside) (s : State) → state_in core ≡ s → bytes_of policy ≡ core.forms → policy.removed.now ≡ core.removed → IsOver policy core.working.stores s
over policy core s same ifr removed = subst (IsOver policy core.working.stores) same (record { ifr = ifr; removed = removed; working_is = refl })

pub browsed : (policy : Policy) (core : Inside) → IsStanding core → bytes_of policy ≡ core.forms → IsBrowsed policy core.working
browsed policy core stands ifr = record {
  browsable = subst IsBrowsable (sym ifr) stands.browsable;
  its_package = stands.kept ∙ sym ifr;
  laid = stands.laid ∙ ap layout_in (sym ifr);
}

-- a question has a value
pub changes : (policy : Policy) (core : Inside) (shown : Shown) (q : Asked) (offer : Offer) (now : KeptMap) (field : Field) → shown_in core ≡ shown → core.working.ifr ≡ core.forms → IsQuestionIn shown.state.ifr q
    → IsOver policy core.working.stores shown.state → SetsQuestion policy q offer core.working now (Ok field) → Changes shown q.node offer (with_stores core now) (Ok tt)
changes policy core shown q offer now field same kept is its sets =
    let s = shown.state in
    let n = q.node in
    let left = ap (λ (t : State). record t { working = now.stores }) (seen same) in
    let ifr : core.working.ifr ≡ s.ifr = kept ∙ ap (λ (t : State). t.ifr) (seen same) in
    let has : field_of (nodes_of s.ifr) n ≡ Some (range_of field) = sym (ap (λ (x : Asked). x.field) is.own) ∙ sets.2 in
    let bytes = range_of_field (range_of field) in (
      sets.3 s its ∙ sym (ap (λ (t : State). accepted t (ok_text ++ warned_text t t.working n)) left),
      ap (λ (m : KeptMap). m.renewed) sets.0 ∙ ap (λ (bs : List ℕ). counted core.working.renewed (renewals (nodes_of bs) bytes)) ifr
          ∙ ap (λ (k : ℕ). counted k (renewals (nodes_of s.ifr) bytes)) (ap (λ (t : Shown). t.renewed) same)
          ∙ sym (ap (λ (f : Option fields.Field). counted_all shown.renewed (nodes_of s.ifr) (write_of f)) has),
    )

-- a question may not have a value
pub denies : (policy : Policy) (core : Inside) (shown : Shown) (q : Asked) (offer : Offer) (now : KeptMap) (denial : Denial) → shown_in core ≡ shown → IsOver policy core.working.stores shown.state
    → SetsQuestion policy q offer core.working now (Err denial) → Changes shown q.node offer (with_stores core now) (Err denial)
denies policy core shown q offer now denial same its sets = (sets.1 shown.state its, ap (with_stores core) sets.0 ∙ same)

-- the spare stores follow
pub stands_given : (core : Inside) (now : KeptMap) (spare : StoreMap) → IsStanding core → now.ifr ≡ core.working.ifr → spare ≡ now.stores → shape_of spare ≡ shape_of core.spare → IsStandingWith core now spare true None
stands_given core now spare stands ifr follows shape =
    stands_with core now spare true stands ifr (shape ∙ ap shape_of stands.same ∙ stands.laid) follows (λ e. absurd cc)

-- so it is with the question of an id
pub sets_named : (s now : Shown) (q : Option Node) (n : Node) (offer : Offer) (r : Result (Unit {0}) Denial) → q ≡ Some n → Changes s n offer now r → Sets s q offer now r
sets_named s now q n offer (Ok done) named changes =
    subst (λ (o : Option Node). Sets s o offer now (Ok done)) (sym named) (
      ap (λ (o : Outcome). o.state) changes.0,
      ap (λ (o : Outcome). o.reply) changes.0,
      changes.1 ∙ ap (λ (ws : List Write). counted_all s.renewed (nodes_of s.state.ifr) ws) (sym (append-nil (field_write (nodes_of s.state.ifr) n))),
    )
sets_named s now q n offer (Err denial) named changes = subst (λ (o : Option Node). Sets s o offer now (Err denial)) (sym named) changes

pub sets_none : (s : Shown) (q : Option Node) (offer : Offer) (denial : Denial) → q ≡ None → denial ≡ no_question → Sets s q offer s (Err denial)
sets_none s q offer denial none why = rw (none, why) (refl, refl)
