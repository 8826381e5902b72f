-- Outcomes by the chapters: what is denied, what is refused, and how one is made over what is there.
use Rattle.std.proofs.Common.{◌≡◌, ℕ, Bool, true, false, Option, Some, None, Result, Ok, Err, List, [], ◌++◌, refl, sym, ap, ◌∙◌}
use Rattle.std.specs.Prelude.{if◌then◌else◌, option_map, unwrap_or, codes}
use Rattle.browser_rules.specs.Pages.{in_utf8}
use Rattle.browser_rules.specs.Session as chapter
use Rattle.browser_rules.specs.Policy as policy
use Rattle.browser_rules.specs.Words as words
use Rattle.hii_bytes.specs.Texts.{place_text}
use Rattle.hii_bytes.specs.declared.cause.Cause.{Cause}
use Rattle.hii_bytes.specs.declared.cause.Fault.{Fault}
use Rattle.hii_values.specs.Denials.{kind_name, has_text}
use Rattle.hii_values.specs.declared.denial.DenialKind.{DenialKind}
use Rattle.guard_policy.specs.declared.denial.Denial.{Denial}
use Rattle.form_page.specs.Texts.{utf8}
use Rattle.session_steps.specs.State.{State, texts}
use Rattle.session_steps.specs.Step.{Outcome, denied, denied_by_none, refused}
use Rattle.session_steps.specs.Texts.{refused_at_text, refused_text}
use Rattle.hii_bytes.specs.Causes.{cause_for}
use Rattle.rules_laws.specs.Denials.{denial_for, kind_for}
use Rattle.session_laws.specs.laws.Session.{outcome_for, state_for}
use Rattle.rules_laws.proofs.PolicyLemmas.{names_same}

-- ---- denied

pub shown_same : (s : State) → chapter.texts (state_for s) ≡ texts s
unfolding state_for
shown_same s = refl

message_same : (told : Bool) (shows : ℕ → List ℕ) (id : ℕ) → unwrap_or (option_map (λ (id : ℕ). codes " " ++ in_utf8 (shows id)) (if told then Some id else None)) []
    ≡ (if told then codes " " ++ utf8 (shows id) else [])
message_same true shows id = refl
message_same false shows id = refl

pub denied_same : (s : State) (d : Denial) → chapter.denied (state_for s) (denial_for d) ≡ outcome_for (denied s d)
denied_same s d =
    ap (λ (name : List ℕ). with_text name (message (chapter.texts (state_for s)))) (names_same d.kind)
    ∙ ap (λ (shows : ℕ → List ℕ). with_text (kind_name d.kind) (message shows)) (shown_same s)
    ∙ ap (λ (text : List ℕ). with_text (kind_name d.kind) text) (message_same (has_text d.kind) (texts s) d.message)
  where
    message : (ℕ → List ℕ) → List ℕ
    message shows = unwrap_or (option_map (λ (id : ℕ). codes " " ++ in_utf8 (shows id)) (if has_text d.kind then Some d.message else None)) []

    with_text : List ℕ → List ℕ → chapter.Outcome
    with_text name text = record {
      state = state_for s;
      text = codes "DENIED " ++ name ++ codes " at " ++ place_text d.place ++ text ++ codes "\n";
      reply = chapter.Denied (denial_for d);
    }

-- a denial of a kind that is told without a text
pub plain_denied : (s : State) (kind : DenialKind) (place : ℕ) → has_text kind ≡ false
    → chapter.denied (state_for s) (record { kind = kind_for kind; place = place; message = None }) ≡ outcome_for (denied s (record { kind = kind; place = place; message = 0 }))
plain_denied s kind place plain =
    ap (λ (told : Bool). chapter.denied (state_for s) (record { kind = kind_for kind; place = place; message = if told then Some 0 else None })) (sym plain)
    ∙ denied_same s (record { kind = kind; place = place; message = 0 })

-- ---- refused

pub refusal_same : (cause : Cause) → words.refused_text (cause_for cause) ≡ refused_text cause
refusal_same cause = refl

pub refused_same : (s : State) (cause : Cause) → chapter.refused (state_for s) (cause_for cause) ≡ outcome_for (refused s cause)
refused_same s cause = ap (λ (text : List ℕ). record { state = state_for s; text = text; reply = chapter.Refused (cause_for cause) }) (refusal_same cause)

pub refusal_at_same : (fault : Fault) → words.refused_at_text (cause_for fault.cause) fault.place ≡ refused_at_text fault
refusal_at_same fault = refl

-- ---- over what denies, what is there and what was read

pub unless_same : (s : State) (o : Option policy.Denial) (p : Option Denial) (other : chapter.Outcome) (made : Option Denial → Outcome)
    → o ≡ option_map denial_for p → ((d : Denial) → made (Some d) ≡ denied s d) → other ≡ outcome_for (made None) → chapter.unless (state_for s) o other ≡ outcome_for (made p)
unless_same s o None other made same told free = ap (λ (o : Option policy.Denial). chapter.unless (state_for s) o other) same ∙ free
unless_same s o (Some d) other made same told free =
    ap (λ (o : Option policy.Denial). chapter.unless (state_for s) o other) same ∙ denied_same s d ∙ ap outcome_for (sym (told d))

pub some_same : {X : Type 0} (s : State) (kind : DenialKind) (o p : Option X) (next : X → chapter.Outcome) (made : Option X → Outcome)
    → has_text kind ≡ false → o ≡ p → made None ≡ denied s (denied_by_none kind) → ((x : X) → p ≡ Some x → next x ≡ outcome_for (made (Some x)))
    → chapter.with_some (state_for s) (kind_for kind) o next ≡ outcome_for (made p)
some_same {X = X} s kind o None next made plain same none there =
    ap (λ (o : Option X). chapter.with_some (state_for s) (kind_for kind) o next) same ∙ plain_denied s kind 0 plain ∙ ap outcome_for (sym none)
some_same {X = X} s kind o (Some x) next made plain same none there =
    ap (λ (o : Option X). chapter.with_some (state_for s) (kind_for kind) o next) same ∙ there x refl

pub read_same : {X : Type 0} (s : State) (r : Result X words.Cause) (next : X → chapter.Outcome) (cause_of : words.Cause → Cause) (made : Result X words.Cause → Outcome)
    → ((cause : words.Cause) → r ≡ Err cause → cause_for (cause_of cause) ≡ cause) → ((cause : words.Cause) → made (Err cause) ≡ refused s (cause_of cause))
    → ((x : X) → r ≡ Ok x → next x ≡ outcome_for (made (Ok x))) → chapter.with_read (state_for s) r next ≡ outcome_for (made r)
read_same s (Err cause) next cause_of made back told read =
    ap (λ (cause : words.Cause). chapter.refused (state_for s) cause) (sym (back cause refl)) ∙ refused_same s (cause_of cause) ∙ ap outcome_for (sym (told cause))
read_same s (Ok x) next cause_of made back told read = read x refl

pub test_same : (b : Bool) (x y : chapter.Outcome) (x' y' : Outcome) → (b ≡ true → x ≡ outcome_for x') → (b ≡ false → y ≡ outcome_for y')
    → (if b then x else y) ≡ outcome_for (if b then x' else y')
test_same true x y x' y' here there = here refl
test_same false x y x' y' here there = there refl
