-- What a question takes as its value leaves the stores, and is answered with the text, that the chapters say.
use Rattle.std.proofs.Common.{◌≡◌, ◌==◌, ◌⊎◌, ℕ, ◌+◌, true, Option, Some, None, Result, Ok, Err, List, [], ◌∷◌, ◌++◌, map, refl, sym, ap, ◌∙◌, arith, inl, inr}
use Rattle.std.specs.Prelude.{if◌then◌else◌, Contains, codes, option_map}
use Rattle.std.specs.List.{flat_map}
use Rattle.std.specs.Option.{option_or}
use Rattle.std.proofs.lemmas.Bool.{eqb-true}
use Rattle.browser_rules.specs.Nodes as rows
use Rattle.browser_rules.specs.Opcodes.{WARNING_IF}
use Rattle.browser_rules.specs.Pages.{in_utf8}
use Rattle.browser_rules.specs.Policy as policy
use Rattle.browser_rules.specs.Questions as questions
use Rattle.browser_rules.specs.Session as chapter
use Rattle.browser_rules.specs.Stores as held
use Rattle.browser_rules.specs.Words.{place_text}
use Rattle.ifr_opcodes.specs.Fields.{inconsistent_error, no_submit_error, warning_message}
use Rattle.ifr_opcodes.specs.Forest.{Node, below}
use Rattle.ifr_opcodes.specs.Opcode.{number}
use Rattle.ifr_opcodes.specs.declared.codes.TheConstants as numbers
use Rattle.ifr_nodes.specs.NodeExpressions.{message}
use Rattle.ifr_nodes.specs.Nodes.{is_question, nodes_of}
use Rattle.ifr_nodes.proofs.ViewLemmas.{further}
use Rattle.hii_varstore.specs.Stores.{StoreMap}
use Rattle.hii_values.specs.Inputs.{Offer}
use Rattle.hii_values.specs.declared.denial.DenialKind.{DenialKind}
use Rattle.hii_questions.specs.Changes.{with_field}
use Rattle.hii_questions.specs.Fields.{field_of}
use Rattle.hii_questions.specs.Fits.{fits, values_offered}
use Rattle.hii_questions.proofs.FieldLemmas.{passing}
use Rattle.guard_policy.specs.Policy.{first_closed, fixed, inconsistent}
use Rattle.guard_policy.specs.Warned.{warning_of}
use Rattle.guard_policy.specs.declared.denial.Denial.{Denial}
use Rattle.session_steps.specs.State.{State, texts, world_of, world_with}
use Rattle.session_steps.specs.Step.{Outcome, accepted, denied, set_fitting, set_question, set_stores, set_unless_fixed, set_unless_forbidden, value_denial, warned_text}
use Rattle.session_steps.specs.Texts.{ok_text, warning_line}
use Rattle.rules_laws.specs.Denials.{denial_for}
use Rattle.rules_laws.specs.laws.Questions.{bytes_or_denial, offer_for}
use Rattle.session_laws.specs.laws.Session.{AreStored, Stands, outcome_for, state_for}
use Rattle.rules_laws.specs.laws.Stores.{stores_for}
use Rattle.session_laws.proofs.OutcomeLemmas.{plain_denied, shown_same, unless_same}
use Rattle.rules_laws.proofs.PolicyLemmas.{fixed_same, inconsistent_same, or_same, values_same, warned_same}
use Rattle.rules_laws.proofs.QuestionLemmas as asked
use Rattle.session_laws.proofs.SeenLemmas.{alike_now, alike_over, with_working}
use Rattle.session_laws.proofs.StoredLemmas.{IsPlain, plain_fits, put_stored}

-- ---- warnings

lines_same : {X Y : Type 0} (f : X → List ℕ) (g : Y → List ℕ) (h : X → Y) (xs : List X) → ((x : X) → Contains xs x → f x ≡ g (h x)) → flat_map f xs ≡ flat_map g (map h xs)
lines_same f g h [] same = refl
lines_same f g h (x ∷ xs) same =
    ap (λ (text : List ℕ). text ++ flat_map f xs) (same x (0, omega arith, refl))
    ∙ ap (λ (text : List ℕ). g (h x) ++ text) (lines_same f g h xs (λ y there. same y (further x xs y there)))

warning_is : (op : List ℕ) → (number op == numbers.WARNING_IF) ≡ true → message op ≡ warning_message op
warning_is op is =
    ap (λ (code : ℕ). if code == numbers.INCONSISTENT_IF then inconsistent_error op else if code == numbers.NO_SUBMIT_IF then no_submit_error op else warning_message op)
    (eqb-true (number op) numbers.WARNING_IF is)

warning_same : (s : State) (n : Node) → rows.is WARNING_IF n ≡ true → chapter.warning_text (state_for s) n ≡ warning_line (texts s) (warning_of n)
warning_same s n is =
    ap (λ (shows : ℕ → List ℕ). codes "WARNING at " ++ place_text n.place ++ codes " " ++ in_utf8 (shows (warning_message n.op)) ++ codes "\n") (shown_same s)
    ∙ ap (λ (id : ℕ). codes "WARNING at " ++ place_text n.place ++ codes " " ++ in_utf8 (texts s id) ++ codes "\n") (sym (warning_is n.op is))

warnings_same : (s : State) (m : StoreMap) (q : Node) → Stands s → AreStored s.ifr m → Contains (nodes_of s.ifr) q → is_question q ≡ true
    → flat_map (chapter.warning_text (state_for s)) (policy.warnings (chapter.over (state_for s) (stores_for m)) q) ≡ warned_text s m q
warnings_same s m q stands stored within is =
    lines_same (chapter.warning_text (state_for s)) (warning_line (texts s)) warning_of (policy.warnings w q)
    (λ n there. warning_same s n (passing (rows.is WARNING_IF) (below q) n (passing (policy.is_met w) (rows.in_question (rows.is WARNING_IF) q) n there).0).1)
    ∙ ap (λ (ns : List Node). flat_map (warning_line (texts s)) (map warning_of ns)) (warned_same s.ifr w (world_with s m) q (alike_over s m stands stored) within is)
  where
    w : policy.World
    w = chapter.over (state_for s) (stores_for m)

-- ---- a question takes a value

-- a value of some options leaves these stores
abbrev chapter_over : State → Node → held.Stores → List ℕ → chapter.Outcome
chapter_over s q new values =
    chapter.unless (state_for s)
    (option_or (policy.values_denied_by (chapter.now (state_for s)) q values) (policy.inconsistent_by (chapter.over (state_for s) new) q))
    (chapter.accepted (let t = state_for s in record t { working = new }) (codes "OK\n" ++ flat_map (chapter.warning_text (state_for s)) (policy.warnings (chapter.over (state_for s) new) q)))

denials_same : (s : State) (m : StoreMap) (q : Node) (values : List ℕ) → Stands s → AreStored s.ifr m → Contains (nodes_of s.ifr) q → is_question q ≡ true
    → option_or (policy.values_denied_by (chapter.now (state_for s)) q values) (policy.inconsistent_by (chapter.over (state_for s) (stores_for m)) q)
    ≡ option_map denial_for (value_denial (world_of s) m q values)
denials_same s m q values stands stored within is =
    ap (λ (o : Option policy.Denial). option_or o (policy.inconsistent_by (chapter.over (state_for s) (stores_for m)) q)) (values_same s.ifr (chapter.now (state_for s)) (world_of s) q values (alike_now s stands) within is)
    ∙ ap (λ (o : Option policy.Denial). option_or (option_map denial_for (first_closed (world_of s) q values)) o) (inconsistent_same s.ifr (chapter.over (state_for s) (stores_for m)) (world_with s m) q (alike_over s m stands stored) within is)
    ∙ or_same (first_closed (world_of s) q values) (inconsistent (world_with s m) q)

over_same : (s : State) (m : StoreMap) (q : Node) (values : List ℕ) → Stands s → AreStored s.ifr m → Contains (nodes_of s.ifr) q → is_question q ≡ true
    → chapter_over s q (stores_for m) values ≡ outcome_for (set_stores s m q values)
over_same s m q values stands stored within is =
    unless_same s (option_or (policy.values_denied_by (chapter.now (state_for s)) q values) (policy.inconsistent_by (chapter.over (state_for s) (stores_for m)) q)) (value_denial (world_of s) m q values)
    (chapter.accepted (let t = state_for s in record t { working = stores_for m }) (codes "OK\n" ++ flat_map (chapter.warning_text (state_for s)) (policy.warnings (chapter.over (state_for s) (stores_for m)) q))) (set_unless_forbidden s m q)
    (denials_same s m q values stands stored within is) (λ d. refl)
    (ap (λ (text : List ℕ). chapter.accepted (let t = state_for s in record t { working = stores_for m }) (codes "OK\n" ++ text)) (warnings_same s m q stands stored within is)
    ∙ ap (λ (t : chapter.State). chapter.accepted t (codes "OK\n" ++ warned_text s m q)) (with_working s m))

abbrev chapter_new : State → Node → Offer → List ℕ → chapter.Outcome
chapter_new s q offer bytes =
    chapter_over s q (questions.with_field (state_for s).working (questions.field_of (chapter.nodes (state_for s)) q) bytes) (questions.values_offered q (offer_for offer))

put_same : (s : State) (q : Node) (bytes : List ℕ) → questions.with_field (state_for s).working (questions.field_of (chapter.nodes (state_for s)) q) bytes ≡ stores_for (with_field s.working (field_of (nodes_of s.ifr) q) bytes)
unfolding state_for
put_same s q bytes =
    ap (λ (f : Option questions.Field). questions.with_field (stores_for s.working) f bytes) (asked.field_same (nodes_of s.ifr) q)
    ∙ asked.put_same s.working (field_of (nodes_of s.ifr) q) bytes

fits_same : (s : State) (q : Node) (offer : Offer) → questions.fits (chapter.nodes (state_for s)) q (offer_for offer) ≡ bytes_or_denial (fits (nodes_of s.ifr) q offer)
unfolding state_for
fits_same s q offer = asked.fits_same (nodes_of s.ifr) q offer

fit_same : (s : State) (q : Node) (offer : Offer) (r : Result (List ℕ) DenialKind) → IsPlain r → Stands s → Contains (nodes_of s.ifr) q → is_question q ≡ true
    → chapter.with_fit (state_for s) q (bytes_or_denial r) (chapter_new s q offer) ≡ outcome_for (set_fitting s q (values_offered q offer) r)
fit_same s q offer (Err kind) plain stands within is = plain_denied s kind q.place plain
fit_same s q offer (Ok bytes) plain stands within is =
    let new = with_field s.working (field_of (nodes_of s.ifr) q) bytes in
    ap (λ (stores : held.Stores). chapter_over s q stores (questions.values_offered q (offer_for offer))) (put_same s q bytes)
    ∙ ap (λ (values : List ℕ). chapter_over s q (stores_for new) values) (asked.values_same q offer)
    ∙ over_same s new q (values_offered q offer) stands (put_stored s.ifr s.working (field_of (nodes_of s.ifr) q) bytes stands.working plain) within is

pub set_same : (s : State) (q : Node) (offer : Offer) → Stands s → Contains (nodes_of s.ifr) q → is_question q ≡ true
    → chapter.set (state_for s) q (offer_for offer) ≡ outcome_for (set_question s (Some q) offer)
set_same s q offer stands within is =
    unless_same s (policy.fixed_by (chapter.now (state_for s)) q) (fixed (world_of s) q)
    (chapter.with_fit (state_for s) q (questions.fits (chapter.nodes (state_for s)) q (offer_for offer)) (chapter_new s q offer)) (set_unless_fixed s q offer)
    (fixed_same s.ifr (chapter.now (state_for s)) (world_of s) q (alike_now s stands) within) (λ d. refl)
    (ap (λ (r : Result (List ℕ) questions.DenialKind). chapter.with_fit (state_for s) q r (chapter_new s q offer)) (fits_same s q offer)
    ∙ fit_same s q offer (fits (nodes_of s.ifr) q offer) (plain_fits (nodes_of s.ifr) q offer) stands within is)

-- ---- what it leaves

-- It is denied, or leaves other stores of the package.
abbrev pub Sets : State → Outcome → Type 0
Sets s o =
    ((d : Denial) × (o ≡ denied s d))
    ⊎ ((m : StoreMap) × (text : List ℕ) × (o ≡ accepted (record s { working = m }) text) × AreStored s.ifr m)

sets_over : (s : State) (m : StoreMap) (q : Node) (o : Option Denial) → AreStored s.ifr m → Sets s (set_unless_forbidden s m q o)
sets_over s m q (Some d) stored = inl (d, refl)
sets_over s m q None stored = inr (m, ok_text ++ warned_text s m q, refl, stored)

sets_fit : (s : State) (q : Node) (values : List ℕ) (r : Result (List ℕ) DenialKind) → IsPlain r → Stands s → Sets s (set_fitting s q values r)
sets_fit s q values (Err kind) plain stands = inl (record { kind = kind; place = q.place; message = 0 }, refl)
sets_fit s q values (Ok bytes) plain stands =
    let new = with_field s.working (field_of (nodes_of s.ifr) q) bytes in
    sets_over s new q (value_denial (world_of s) new q values) (put_stored s.ifr s.working (field_of (nodes_of s.ifr) q) bytes stands.working plain)

sets_unless : (s : State) (q : Node) (offer : Offer) (o : Option Denial) → Stands s → Sets s (set_unless_fixed s q offer o)
sets_unless s q offer (Some d) stands = inl (d, refl)
sets_unless s q offer None stands = sets_fit s q (values_offered q offer) (fits (nodes_of s.ifr) q offer) (plain_fits (nodes_of s.ifr) q offer) stands

pub sets : (s : State) (q : Node) (offer : Offer) → Stands s → Sets s (set_question s (Some q) offer)
sets s q offer stands = sets_unless s q offer (fixed (world_of s) q) stands

-- ---- what stands with other stores

pub with_stored : (s : State) (m : StoreMap) → Stands s → AreStored s.ifr m → Stands (record s { working = m })
with_stored s m stands stored = record { browsable = stands.browsable; are_bytes = stands.are_bytes; committed = stands.committed; working = stored }
