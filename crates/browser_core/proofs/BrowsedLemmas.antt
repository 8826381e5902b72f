-- What a form set that is browsed does, by the chapters.
use Rattle.std.proofs.Common.{◌≡◌, ℕ, List, [], Some, sym, ap, subst, ◌∙◌, inl, inr}
use Rattle.browser_rules.specs.Faults.{open_faults}
use Rattle.browser_rules.specs.Forest.{nodes_of}
use Rattle.browser_rules.specs.Script as script
use Rattle.browser_rules.specs.Script.{Command}
use Rattle.browser_rules.specs.Session as chapter
use Rattle.browser_rules.specs.Stores as held
use Rattle.hii_bytes.specs.Faults.{Refuses}
use Rattle.hii_bytes.specs.Numbers.{AreBytes}
use Rattle.hii_bytes.specs.declared.cause.Fault.{Fault}
use Rattle.hii_varstore.specs.Image.{image_of}
use Rattle.hii_varstore.specs.Layout.{Shape}
use Rattle.hii_varstore.specs.Stores.{StoreMap}
use Rattle.ifr_opcodes.specs.Forest.{Node}
use Rattle.guard_policy.specs.World.{World}
use Rattle.form_page.specs.Pages.{page_text}
use Rattle.rules_laws.specs.laws.Stores.{stores_for}
use Rattle.rules_laws.proofs.StoreLemmas.{image_same, shape_same}
use Rattle.session_steps.specs.Opening as code
use Rattle.session_steps.specs.Opening.{IsOpenFault}
use Rattle.session_steps.specs.Renewed as counted
use Rattle.session_steps.specs.State.{State, texts, world_of}
use Rattle.session_steps.specs.Step.{form_of, page_at, step, step_line}
use Rattle.session_laws.specs.Replies.{reply_for}
use Rattle.session_laws.specs.laws.Session.{AreStored, Stands, state_for}
use Rattle.session_laws.proofs.BeginLemmas.{begins, image_spelled}
use Rattle.session_laws.proofs.OpenedLemmas.{stands_opened}
use Rattle.session_laws.proofs.OpeningFaultLemmas.{same_least_opening, same_sound_opening}
use Rattle.session_laws.proofs.RenewedLemmas.{renewed_line_same, renewed_same}
use Rattle.session_laws.proofs.SeenLemmas.{committed_is, ifr_is, working_is}
use Rattle.session_laws.proofs.SessionLemmas.{line_alike, step_alike}
use Rattle.browser_commands.proofs.OpeningLemmas.{opens_no_fault}
use Rattle.browser_core.specs.Opening.{IsOfMemory, Opens, RefusesOpening}
use Rattle.browser_core.specs.Shown.{Shown, shown_after, shown_line}

-- ---- opening

pub opens : (list : List ℕ) (n : ℕ) (image language : List ℕ) (s : State) → code.Opens list n image language s → AreBytes list → AreBytes image → Opens list n image language (state_for s)
opens list n image language s opened are images = record {
  stores = stores_for s.working;
  sound = (same_sound_opening list n image are).1 (opens_no_fault list n image language s opened);
  spelled = image_spelled list n image language s opened;
  begins = sym (begins list n image language s opened (stands_opened list n image language s opened are images));
}

pub refused : (list : List ℕ) (n : ℕ) (image : List ℕ) (fault : Fault) → AreBytes list → Refuses (IsOpenFault list n image) fault → RefusesOpening list n image fault
refused list n image fault are (inl memory) = inl memory
refused list n image fault are (inr least) = inr ((same_least_opening list n image fault are).1 least)

pub only_memory : (list : List ℕ) (n : ℕ) (image : List ℕ) (fault : Fault) → AreBytes list → Refuses (IsOpenFault list n image) fault → open_faults list n image ≡ [] → IsOfMemory fault
only_memory list n image fault are (inl memory) sound = memory
only_memory list n image fault are (inr least) sound = absurd ((same_sound_opening list n image are).0 sound fault.cause fault.place least.told)

-- ---- commands and lines

-- what a session shows by the chapters
abbrev pub shown_for : counted.Shown → Shown
shown_for shown = record { state = state_for shown.state; renewed = shown.renewed }

pub after_command : (shown : counted.Shown) (command : Command) → Stands shown.state → shown_for (counted.shown_after shown command) ≡ shown_after (shown_for shown) command
after_command shown command stands =
    ap (λ (o : chapter.Outcome). record { state = o.state; renewed = counted.renewed_by shown.state command }) (sym (step_alike shown.state command stands))
    ∙ ap (λ (n : ℕ). record { state = (chapter.step (state_for shown.state) command).state; renewed = n }) (sym (renewed_same shown.state command stands))

pub after_line : (shown : counted.Shown) (line : List ℕ) → Stands shown.state → shown_for (counted.shown_line shown line) ≡ shown_line (shown_for shown) line
after_line shown line stands =
    ap (λ (o : chapter.Outcome). record { state = o.state; renewed = (counted.shown_line shown line).renewed }) (sym (line_alike shown.state line stands))
    ∙ ap (λ (n : ℕ). record { state = (chapter.step_line (state_for shown.state) line).state; renewed = n }) (sym (renewed_line_same shown line stands))

pub command_text : (shown : counted.Shown) (now : Shown) (command : Command) → Stands shown.state → shown_for shown ≡ now → (step shown.state command).text ≡ (chapter.step now.state command).text
command_text shown now command stands seen = ap (λ (o : chapter.Outcome). o.text) (sym (step_alike shown.state command stands)) ∙ ap (λ (t : Shown). (chapter.step t.state command).text) seen

pub command_reply : (shown : counted.Shown) (now : Shown) (command : Command) → Stands shown.state → shown_for shown ≡ now → reply_for (step shown.state command).reply ≡ (chapter.step now.state command).reply
command_reply shown now command stands seen = ap (λ (o : chapter.Outcome). o.reply) (sym (step_alike shown.state command stands)) ∙ ap (λ (t : Shown). (chapter.step t.state command).reply) seen

pub line_text : (shown : counted.Shown) (now : Shown) (line : List ℕ) → Stands shown.state → shown_for shown ≡ now → (step_line shown.state line).text ≡ (chapter.step_line now.state line).text
line_text shown now line stands seen = ap (λ (o : chapter.Outcome). o.text) (sym (line_alike shown.state line stands)) ∙ ap (λ (t : Shown). (chapter.step_line t.state line).text) seen

-- ---- pages

pub page_by_rules : (shown : counted.Shown) (now : Shown) (form : Node) (shows : ℕ → List ℕ) (w : World) (m : StoreMap) → Stands shown.state → shown_for shown ≡ now
    → form_of shown.state ≡ Some form → w ≡ world_of shown.state → m ≡ shown.state.working → shows ≡ texts shown.state → page_text shows w m form ≡ (chapter.step now.state script.Page).text
page_by_rules shown now form shows w m stands seen at world stores told =
    rw (world, stores, told) (ap (page_at shown.state) (sym at) ∙ command_text shown now script.Page stands seen)

-- ---- stores

pub committed_by_rules : (shown : counted.Shown) (now : Shown) (m : StoreMap) → shown_for shown ≡ now → m ≡ shown.state.committed → stores_for m ≡ now.state.committed
committed_by_rules shown now m seen is = ap stores_for is ∙ sym (committed_is shown.state) ∙ ap (λ (t : Shown). t.state.committed) seen

pub working_by_rules : (shown : counted.Shown) (now : Shown) (m : StoreMap) → shown_for shown ≡ now → m ≡ shown.state.working → stores_for m ≡ now.state.working
working_by_rules shown now m seen is = ap stores_for is ∙ sym (working_is shown.state) ∙ ap (λ (t : Shown). t.state.working) seen

image_of_stores : (ifr : List ℕ) (m : StoreMap) → AreStored ifr m → image_of m ≡ held.image_of (held.shape_of (nodes_of ifr)).guid (stores_for m)
image_of_stores ifr m stored =
    sym (image_same m)
    ∙ ap (λ (shape : Shape). held.image_of shape.guid (stores_for m)) stored.laid
    ∙ ap (λ (shape : held.Shape). held.image_of shape.guid (stores_for m)) (sym (shape_same (nodes_of ifr)))

image_as_shown : (shown : counted.Shown) (now : Shown) (m : StoreMap) → shown_for shown ≡ now → AreStored shown.state.ifr m → image_of m ≡ held.image_of (held.shape_of (nodes_of now.state.ifr)).guid (stores_for m)
image_as_shown shown now m seen stored =
    image_of_stores shown.state.ifr m stored
    ∙ ap (λ (ifr : List ℕ). held.image_of (held.shape_of (nodes_of ifr)).guid (stores_for m)) (sym (ifr_is shown.state))
    ∙ ap (λ (t : Shown). held.image_of (held.shape_of (nodes_of t.state.ifr)).guid (stores_for m)) seen

pub committed_image_by_rules : (shown : counted.Shown) (now : Shown) (m : StoreMap) → Stands shown.state → shown_for shown ≡ now → m ≡ shown.state.committed
    → image_of m ≡ held.image_of (held.shape_of (nodes_of now.state.ifr)).guid now.state.committed
committed_image_by_rules shown now m stands seen is =
    image_as_shown shown now m seen (subst (AreStored shown.state.ifr) (sym is) stands.committed)
    ∙ ap (held.image_of (held.shape_of (nodes_of now.state.ifr)).guid) (committed_by_rules shown now m seen is)

pub working_image_by_rules : (shown : counted.Shown) (now : Shown) (m : StoreMap) → Stands shown.state → shown_for shown ≡ now → m ≡ shown.state.working
    → image_of m ≡ held.image_of (held.shape_of (nodes_of now.state.ifr)).guid now.state.working
working_image_by_rules shown now m stands seen is =
    image_as_shown shown now m seen (subst (AreStored shown.state.ifr) (sym is) stands.working)
    ∙ ap (held.image_of (held.shape_of (nodes_of now.state.ifr)).guid) (working_by_rules shown now m seen is)
