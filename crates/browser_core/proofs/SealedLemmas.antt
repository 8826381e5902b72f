-- Two sessions that hold the same in sealed questions answer commands on these alike.
use Rattle.std.proofs.Common.{◌≡◌, ℕ, ◌+◌, ◌<◌, ◌==◌, Bool, true, false, cond, Option, Some, None, option_map, Result, Ok, Err, List, [], ◌∷◌, ◌++◌, length, get_or, map, slice_range, refl, sym, ap, subst, ◌∙◌, arith}
use Rattle.std.specs.Prelude.{Contains}
use Rattle.std.specs.List.{AllByRecursion, flat_map}
use Rattle.std.proofs.lemmas.List.{places, same_lists}
use Rattle.ifr_opcodes.specs.Forest.{Node}
use Rattle.ifr_expr.specs.Meaning.{answered}
use Rattle.ifr_expr.specs.Values.{Value, undefined}
use Rattle.ifr_nodes.specs.Nodes.{nodes_of, options, inconsistents, warnings}
use Rattle.ifr_nodes.proofs.ViewLemmas.{further}
use Rattle.hii_varstore.specs.Layout.{Shape, size_of}
use Rattle.hii_varstore.specs.Stores.{StoreMap, shape_of, bytes_of, overwritten}
use Rattle.hii_varstore.proofs.WriteLemmas.{bytes_after, sizes}
use Rattle.hii_values.specs.Inputs.{Offer, whole, listed, utf8}
use Rattle.hii_values.specs.Types.{type_of}
use Rattle.hii_values.specs.declared.denial.DenialKind.{DenialKind}
use Rattle.hii_questions.specs.Answers.{answers, answer_of, value_of_field, value_of_bytes}
use Rattle.hii_questions.specs.Fields.{Field, field_of, question_with}
use Rattle.hii_questions.specs.Fits.{fits, values_offered}
use Rattle.hii_questions.specs.Changes.{field_bytes, with_field}
use Rattle.guard_policy.specs.Policy.{or_else, fixed, closed, first_closed, inconsistent, warned}
use Rattle.guard_policy.specs.laws.Support.{around, support_over}
use Rattle.guard_policy.specs.Warned.{warning_of}
use Rattle.guard_policy.specs.World.{World, is_met_over, world_over}
use Rattle.guard_policy.specs.declared.denial.Denial.{Denial}
use Rattle.guard_policy.proofs.SupportLemmas.{front, back, all_alike, fixed_same, closed_same, inconsistent_same, warned_same}
use Rattle.browser_rules.specs.Script as script
use Rattle.browser_rules.specs.Script.{Command}
use Rattle.browser_core.specs.laws.Bytes.{state_with, answers_to}
use Rattle.session_steps.specs.Opening.{layout_in}
use Rattle.browser_core.specs.laws.Sealed.{deciding, IsSealed, HoldAlike, AreAlike, IsLaid, SessionsAreLaid, IsOn, SealedQuestionsAnswerAlike}
use Rattle.session_steps.specs.State.{State, world_with, world_of, texts}
use Rattle.session_steps.specs.Step.{Outcome, step, denied, no_question, told_why, question_denial, why_question, set_question, set_unless_fixed, set_fitting, set_stores, set_unless_forbidden, value_denial}
use Rattle.session_steps.specs.Texts.{ok_text, warning_line}
use Rattle.session_steps.proofs.KeepLemmas.{Keeps, step_keeps}

-- ---- bytes that are written

pub element : (xs ys : List ℕ) (at width k d : ℕ) → length xs ≡ length ys → slice_range xs at (at + width) ≡ slice_range ys at (at + width) → k < length (slice_range xs at (at + width)) → get_or xs (at + k) d ≡ get_or ys (at + k) d
element xs ys at width k d lengths e lt =
    let same = ap (λ (l : List ℕ). get_or l k d) e in
    grind (arith, places, same)

-- Where two lists of one length hold the same in a range, they do so after the same was written into both.
range_alike : (xs ys new : List ℕ) (offset at width : ℕ) → length xs ≡ length ys → slice_range xs at (at + width) ≡ slice_range ys at (at + width)
    → slice_range (overwritten xs offset new) at (at + width) ≡ slice_range (overwritten ys offset new) at (at + width)
range_alike xs ys new offset at width lengths e =
    same_lists _ _ (grind (arith, places, lengths)) (λ k d h. let same = element xs ys at width k d lengths e (grind (arith, places)) in grind (arith, places, same, lengths))

-- the bytes of a field in the store of its id, after a write to a store or to none
abbrev pub range_of : Option (List ℕ) → ℕ → ℕ → Option (List ℕ)
range_of o at width = option_map (λ bytes. slice_range bytes at (at + width)) o

abbrev written : Bool → Option (List ℕ) → ℕ → List ℕ → Option (List ℕ)
written here o offset new = option_map (λ (bytes : List ℕ). cond here (overwritten bytes offset new) bytes) o

abbrev pub length_of : Option (List ℕ) → Option ℕ
length_of o = option_map (λ (bytes : List ℕ). length bytes) o

written_alike : (here : Bool) (o p : Option (List ℕ)) (offset at width : ℕ) (new : List ℕ) → length_of o ≡ length_of p → range_of o at width ≡ range_of p at width
    → range_of (written here o offset new) at width ≡ range_of (written here p offset new) at width
written_alike here None None offset at width new lengths e = refl
written_alike here None (Some ys) offset at width new lengths e = absurd cc
written_alike here (Some xs) None offset at width new lengths e = absurd cc
written_alike true (Some xs) (Some ys) offset at width new lengths e =
    let same : length xs ≡ length ys = cc in
    let alike : slice_range xs at (at + width) ≡ slice_range ys at (at + width) = cc in
    ap (λ (l : List ℕ). Some l) (range_alike xs ys new offset at width same alike)
written_alike false (Some xs) (Some ys) offset at width new lengths e = e

-- stores of one shape have as many bytes under an id
pub lengths_alike : (a b : StoreMap) (store : ℕ) → shape_of a ≡ shape_of b → length_of (bytes_of a store) ≡ length_of (bytes_of b store)
lengths_alike a b store shapes = sym (sizes a store) ∙ ap (λ (shape : Shape). size_of shape store) shapes ∙ sizes b store

-- where two maps of stores of one shape hold the same in a field, they do so after the same was written into both
field_alike : (a b : StoreMap) (f g : Field) (new : List ℕ) → shape_of a ≡ shape_of b → field_bytes a (Some g) ≡ field_bytes b (Some g)
    → field_bytes (with_field a (Some f) new) (Some g) ≡ field_bytes (with_field b (Some f) new) (Some g)
field_alike a b f g new shapes e =
    ap (λ o. range_of o g.offset g.width) (bytes_after a f.store f.offset g.store new)
    ∙ written_alike (g.store == f.store) (bytes_of a g.store) (bytes_of b g.store) f.offset g.offset g.width new (lengths_alike a b g.store shapes) e
    ∙ sym (ap (λ o. range_of o g.offset g.width) (bytes_after b f.store f.offset g.store new))

one_alike : (a b : StoreMap) (o p : Option Field) (new : List ℕ) → shape_of a ≡ shape_of b → field_bytes a p ≡ field_bytes b p → field_bytes (with_field a o new) p ≡ field_bytes (with_field b o new) p
one_alike a b o None new shapes e = refl
one_alike a b None (Some g) new shapes e = e
one_alike a b (Some f) (Some g) new shapes e = field_alike a b f g new shapes e

-- a write changes no shape
-- ---- what questions answer

value_alike : (a b : StoreMap) (n : Node) (o : Option Field) → field_bytes a o ≡ field_bytes b o → value_of_field a n o ≡ value_of_field b n o
value_alike a b n None e = refl
value_alike a b n (Some field) e = ap (value_of_bytes (type_of n)) e

-- some of these, each of which has a property
all_within : (P : ℕ → Type 0) (ids xs : List ℕ) → ((id : ℕ) → Contains ids id → P id) → ((x : ℕ) → Contains xs x → Contains ids x) → AllByRecursion P xs
all_within P ids [] holds within = tt
all_within P ids (x ∷ xs) holds within = (holds x (within x (0, omega arith, refl)), all_within P ids xs holds (λ y there. within y (further x xs y there)))

module _ (ns : List Node) (ids : List ℕ) (a b : StoreMap) (alike : HoldAlike ns ids a b) where
  one_answer : (id : ℕ) (o : Option Node) → Contains ids id → question_with ns id ≡ o → answer_of ns a o ≡ answer_of ns b o
  one_answer id None within e = refl
  one_answer id (Some q) within e = value_alike a b q (field_of ns q) (alike id q within e)

  answered_alike : (id : ℕ) → Contains ids id → answered (answers ns a) id ≡ answered (answers ns b) id
  answered_alike id within = ap (λ (v : Value). cond (id == 0) undefined v) (one_answer id (question_with ns id) within refl)

  abbrev HoldsAlike : Node → Type 0
  HoldsAlike c = is_met_over ns b c ≡ is_met_over ns a c

  -- the conditions that decide of the changes of one of these questions
  module _ (removed : List ℕ) (q : Node) (behind : (id : ℕ) → Contains (support_over ns (deciding q)) id → Contains ids id) where
    all_hold : AllByRecursion HoldsAlike (deciding q)
    all_hold = all_alike ns removed a b (deciding q) (all_within (λ id. answered (answers ns a) id ≡ answered (answers ns b) id) ids (support_over ns (deciding q)) answered_alike behind)

    abbrev before : World
    before = world_over ns removed a

    abbrev other : World
    other = world_over ns removed b

    of_options : AllByRecursion HoldsAlike (flat_map around (options q))
    of_options = front HoldsAlike (flat_map around (options q)) (inconsistents q ++ warnings q) (back HoldsAlike (around q) (flat_map around (options q) ++ (inconsistents q ++ warnings q)) all_hold)

    of_its_own : AllByRecursion HoldsAlike (inconsistents q ++ warnings q)
    of_its_own = back HoldsAlike (flat_map around (options q)) (inconsistents q ++ warnings q) (back HoldsAlike (around q) (flat_map around (options q) ++ (inconsistents q ++ warnings q)) all_hold)

    pub fixed_alike : fixed other q ≡ fixed before q
    fixed_alike = fixed_same before (is_met_over ns b) q (front HoldsAlike (around q) (flat_map around (options q) ++ (inconsistents q ++ warnings q)) all_hold)

    pub first_closed_alike : (values : List ℕ) → first_closed other q values ≡ first_closed before q values
    first_closed_alike [] = refl
    first_closed_alike (value ∷ values) =
        ap (λ (d : Option Denial). or_else d (first_closed other q values)) (closed_same before (is_met_over ns b) q value of_options)
        ∙ ap (or_else (closed before q value)) (first_closed_alike values)

    pub inconsistent_alike : inconsistent other q ≡ inconsistent before q
    inconsistent_alike = inconsistent_same before (is_met_over ns b) q (front HoldsAlike (inconsistents q) (warnings q) of_its_own)

    pub warned_alike : warned other q ≡ warned before q
    warned_alike = warned_same before (is_met_over ns b) q (back HoldsAlike (inconsistents q) (warnings q) of_its_own)

-- ---- one command

module _ (s : State) (ids : List ℕ) (committed working : StoreMap) (form : ℕ) (history path : List ℕ) (sealed : IsSealed (nodes_of s.ifr) ids) (shapes : shape_of s.working ≡ shape_of working)
    (submitted : HoldAlike (nodes_of s.ifr) ids s.committed committed) (read : HoldAlike (nodes_of s.ifr) ids s.working working) where
  -- a session like this one over other stores
  abbrev beside : State
  beside = record s { committed = committed; working = working; form = form; history = history; path = path }

  abbrev ns : List Node
  ns = nodes_of s.ifr

  abbrev Answer : Outcome → Outcome → Type 0
  Answer a b = (a.text ≡ b.text) × AreAlike ids a.state b.state

  unchanged : AreAlike ids s beside
  unchanged = record { ifr = refl; removed = refl; spoken = refl; language = refl; committed = submitted; working = read }

  denied_alike : (d : Denial) → Answer (denied s d) (denied beside d)
  denied_alike d = (refl, unchanged)

  told_alike : (o : Option Denial) → Answer (told_why s o) (told_why beside o)
  told_alike None = (refl, unchanged)
  told_alike (Some d) = denied_alike d

  module _ (id : ℕ) (within : Contains ids id) where
    behind : (q : Node) → question_with ns id ≡ Some q → (other : ℕ) → Contains (support_over ns (deciding q)) other → Contains ids other
    behind q is other = sealed id other q within is

    denial_alike : (o : Option Node) → question_with ns id ≡ o → question_denial beside o ≡ question_denial s o
    denial_alike None is = refl
    denial_alike (Some q) is = fixed_alike ns ids s.working working read s.removed q (behind q is)

    pub why_alike : (o : Option Node) → question_with ns id ≡ o → Answer (why_question s o) (why_question beside o)
    why_alike o is = subst (λ d. Answer (why_question s o) (told_why beside d)) (sym (denial_alike o is)) (told_alike (question_denial s o))

    -- over new stores that hold the same
    module _ (q : Node) (is : question_with ns id ≡ Some q) (a b : StoreMap) (new : HoldAlike ns ids a b) where
      forbidden_alike : (o : Option Denial) → Answer (set_unless_forbidden s a q o) (set_unless_forbidden beside b q o)
      forbidden_alike (Some d) = denied_alike d
      forbidden_alike None = (
        ap (λ (ws : List Node). ok_text ++ flat_map (warning_line (texts s)) (map warning_of ws)) (sym (warned_alike ns ids a b new s.removed q (behind q is))),
        record { ifr = refl; removed = refl; spoken = refl; language = refl; committed = submitted; working = new },
      )

      forbids_alike : (values : List ℕ) → value_denial (world_of beside) b q values ≡ value_denial (world_of s) a q values
      forbids_alike values =
          ap (λ (d : Option Denial). or_else d (inconsistent (world_with beside b) q)) (first_closed_alike ns ids s.working working read s.removed q (behind q is) values)
          ∙ ap (or_else (first_closed (world_of s) q values)) (inconsistent_alike ns ids a b new s.removed q (behind q is))

      stores_alike : (values : List ℕ) → Answer (set_stores s a q values) (set_stores beside b q values)
      stores_alike values = subst (λ d. Answer (set_stores s a q values) (set_unless_forbidden beside b q d)) (sym (forbids_alike values)) (forbidden_alike (value_denial (world_of s) a q values))

    fitting_alike : (q : Node) (values : List ℕ) (r : Result (List ℕ) DenialKind) → question_with ns id ≡ Some q → Answer (set_fitting s q values r) (set_fitting beside q values r)
    fitting_alike q values (Err why) is = denied_alike record { kind = why; place = q.place; message = 0 }
    fitting_alike q values (Ok bytes) is =
        stores_alike q is (with_field s.working (field_of ns q) bytes) (with_field working (field_of ns q) bytes)
        (λ other n within found. one_alike s.working working (field_of ns q) (field_of ns n) bytes shapes (read other n within found)) values

    unless_alike : (q : Node) (offer : Offer) (o : Option Denial) → question_with ns id ≡ Some q → Answer (set_unless_fixed s q offer o) (set_unless_fixed beside q offer o)
    unless_alike q offer (Some d) is = denied_alike d
    unless_alike q offer None is = fitting_alike q (values_offered q offer) (fits ns q offer) is

    pub set_alike : (offer : Offer) (o : Option Node) → question_with ns id ≡ o → Answer (set_question s o offer) (set_question beside o offer)
    set_alike offer None is = denied_alike no_question
    set_alike offer (Some q) is =
        subst (λ d. Answer (set_question s (Some q) offer) (set_unless_fixed beside q offer d)) (sym (denial_alike (Some q) is)) (unless_alike q offer (fixed (world_of s) q) is)

  pub step_beside : (command : Command) → IsOn ids command → Answer (step s command) (step beside command)
  step_beside (script.Set id value) on = set_alike id on (whole value) (question_with ns id) refl
  step_beside (script.Order id numbers) on = set_alike id on (listed numbers) (question_with ns id) refl
  step_beside (script.Text id text) on = set_alike id on (utf8 text) (question_with ns id) refl
  step_beside (script.Why id) on = why_alike id on (question_with ns id) refl
  step_beside script.Discard on = (refl, record { ifr = refl; removed = refl; spoken = refl; language = refl; committed = submitted; working = submitted })
  step_beside script.Page on = absurd on
  step_beside (script.Go id) on = absurd on
  step_beside script.Back on = absurd on
  step_beside (script.Press row) on = absurd on
  step_beside (script.Defaults class) on = absurd on
  step_beside (script.Extract request) on = absurd on
  step_beside (script.Route response) on = absurd on
  step_beside (script.Lang language) on = absurd on
  step_beside script.Submit on = absurd on

-- the second session is the first one over its own stores
beside_is : (s t : State) → s.ifr ≡ t.ifr → s.removed ≡ t.removed → s.spoken ≡ t.spoken → s.language ≡ t.language → record s { committed = t.committed; working = t.working; form = t.form; history = t.history; path = t.path } ≡ t
beside_is s t ifr removed spoken language = rw (ifr, removed, spoken, language) refl

step_alike : (s t : State) (ids : List ℕ) (command : Command) → IsLaid s → IsLaid t → IsSealed (nodes_of s.ifr) ids → AreAlike ids s t → IsOn ids command
    → ((step s command).text ≡ (step t command).text) × AreAlike ids (step s command).state (step t command).state
step_alike s t ids command laid also sealed alike on =
    let shapes = laid.working ∙ ap layout_in alike.ifr ∙ sym also.working in
    subst (λ (u : State). ((step s command).text ≡ (step u command).text) × AreAlike ids (step s command).state (step u command).state)
    (beside_is s t alike.ifr alike.removed alike.spoken alike.language)
    (step_beside s ids t.committed t.working t.form t.history t.path sealed shapes alike.committed alike.working command on)

-- ---- sessions are laid

laid_keeps : (s : State) (command : Command) → IsLaid s → Keeps s (step s command).state
laid_keeps s command laid = step_keeps s command (laid.committed ∙ sym laid.working)

step_laid : (s : State) (command : Command) → IsLaid s → IsLaid (step s command).state
step_laid s command laid =
    let keeps = laid_keeps s command laid in
    record {
      committed = keeps.committed ∙ laid.committed ∙ ap layout_in (sym keeps.ifr);
      working = keeps.working ∙ laid.working ∙ ap layout_in (sym keeps.ifr);
    }

laid_after : (s : State) (commands : List Command) → IsLaid s → IsLaid (state_with s commands)
laid_after s [] laid = laid
laid_after s (command ∷ commands) laid = laid_after (step s command).state commands (step_laid s command laid)

pub are_laid : SessionsAreLaid
are_laid list n image language start commands opens =
    laid_after start commands record { committed = ap shape_of opens.submitted ∙ opens.stores.laid; working = opens.stores.laid }

-- ---- some commands

pub sessions_alike : SealedQuestionsAnswerAlike
sessions_alike s t ids [] laid also sealed alike on = (refl, alike)
sessions_alike s t ids (command ∷ commands) laid also sealed alike on =
    let first = step_alike s t ids command laid also sealed alike on.0 in
    let still = subst (λ (ifr : List ℕ). IsSealed (nodes_of ifr) ids) (sym (laid_keeps s command laid).ifr) sealed in
    let later = sessions_alike (step s command).state (step t command).state ids commands (step_laid s command laid) (step_laid t command also) still first.1 on.1 in
    (ap (λ (text : List ℕ). text ∷ answers_to (step s command).state commands) first.0 ∙ ap (λ (texts : List (List ℕ)). (step t command).text ∷ texts) later.0, later.1)
