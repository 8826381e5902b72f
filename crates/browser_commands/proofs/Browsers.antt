-- What a form set that is browsed is seen as, for proofs that look into it.
use Rattle.ifr_scopes.specs.code.Lists.{form_node}
use Rattle.hii_languages.specs.code.Views.{choice_of}
use Rattle.std.proofs.Common.{◌≡◌, Bool, false, Option, Some, None, Result, sym, ap, ◌∙◌}
use Rattle.std.specs.Vec.{vec_capacity}
use Rattle.hii_varstore.specs.Stores.{StoreMap, shape_of}
use Rattle.guard_policy.specs.Policy.{unsubmitted}
use Rattle.guard_policy.specs.code.Answers.{unless}
use Rattle.guard_policy.specs.declared.denial.Denial.{Denial}
use Rattle.kept_conditions.specs.Kept.{KeptMap}
use Rattle.session_steps.specs.Opening.{layout_in}
use Rattle.session_steps.specs.Renewed.{Shown}
use Rattle.session_steps.specs.State.{State, world_of, world_with}
use Rattle.browser_commands.specs.code.Standing.{Stands}
use Rattle.browser_commands.specs.declared.browser.Browser.TheInside.{Inside}

abbrev pub state_in : Inside → State
state_in c = record {
  ifr = c.forms;
  path = c.path.now;
  removed = c.removed;
  spoken = c.languages;
  language = choice_of c.language;
  committed = c.committed;
  working = c.working.stores;
  form = (form_node c.form).place;
  history = c.history.items;
}

abbrev pub shown_in : Inside → Shown
shown_in c = record { state = state_in c; renewed = c.working.renewed }

-- what holds of a browser at all times
abbrev pub IsStanding : Inside → Type 0
IsStanding c =
    Stands c.forms c.varstores c.questions c.committed c.working c.spare c.is_written (vec_capacity c.changed) (form_node c.form) c.history.items c.removed c.submission

-- what it is seen as with other working stores
abbrev pub with_stores : Inside → KeptMap → Shown
with_stores c now = record { state = record (state_in c) { working = now.stores }; renewed = now.renewed }

-- what is known of a submission
abbrev pub Known : Type 0
Known = Option (Result Unit Denial)

-- what holds of it with other working and spare stores, which may have been written
abbrev pub IsStandingWith : Inside → KeptMap → StoreMap → Bool → Known → Type 0
IsStandingWith c now spare is_written submission =
    Stands c.forms c.varstores c.questions c.committed now spare is_written (vec_capacity c.changed) (form_node c.form) c.history.items c.removed submission

-- It holds where both are as they were,
pub stands_still : (c : Inside) (now : KeptMap) (is_written : Bool) (submission : Known) → IsStanding c → now.ifr ≡ c.working.ifr → now.stores ≡ c.working.stores → (is_written ≡ false → c.is_written ≡ false)
    → ((answer : Result Unit Denial) → submission ≡ Some answer → answer ≡ unless (unsubmitted (world_of (state_in c)))) → IsStandingWith c now c.spare is_written submission
stands_still c now is_written submission stands same_package stores unwritten asked = record {
  named_stores = stands.named_stores;
  buffers = stands.buffers;
  together = stands.together;
  browsable = stands.browsable;
  submitted = stands.submitted;
  kept = same_package ∙ stands.kept;
  laid = ap shape_of stores ∙ stands.laid;
  same = stands.same ∙ sym stores;
  unwritten = λ e. stands.unwritten (unwritten e) ∙ sym stores;
  told = stands.told;
  node = stands.node;
  left = stands.left;
  asked = λ answer e. asked answer e ∙ ap (λ (s : StoreMap). unless (unsubmitted (world_with (state_in c) s))) (sym stores);
}

-- and where both are of the layout and the same.
pub stands_with : (c : Inside) (now : KeptMap) (spare : StoreMap) (is_written : Bool) → IsStanding c → now.ifr ≡ c.working.ifr → shape_of spare ≡ layout_in c.forms → spare ≡ now.stores → (is_written ≡ false → c.committed ≡ now.stores) → IsStandingWith c now spare is_written None
stands_with c now spare is_written stands same_package laid same unwritten = record {
  named_stores = stands.named_stores;
  buffers = stands.buffers;
  together = stands.together;
  browsable = stands.browsable;
  submitted = stands.submitted;
  kept = same_package ∙ stands.kept;
  laid = sym (ap shape_of same) ∙ laid;
  same = same;
  unwritten = unwritten;
  told = stands.told;
  node = stands.node;
  left = stands.left;
  asked = λ answer e. absurd cc;
}

-- what is seen of the state alone
pub seen : {a b : Shown} → a ≡ b → a.state ≡ b.state
seen e = ap (λ (t : Shown). t.state) e

-- the same state and the same number
pub both : (a b : Shown) → a.state ≡ b.state → a.renewed ≡ b.renewed → a ≡ b
both a b state renewed = λ i. record { state = state i; renewed = renewed i }
