-- A command leaves the package and the shape of the stores.
use Rattle.std.proofs.Common.{◌≡◌, ℕ, ◌-◌, ◌==◌, Bool, true, false, cond, Option, Some, None, Result, Ok, Err, List, [], ◌∷◌, length, slice_get, refl, sym, ap, ◌∙◌}
use Rattle.ifr_opcodes.specs.Fields.{reset_default}
use Rattle.ifr_opcodes.specs.Forest.{Node}
use Rattle.ifr_opcodes.specs.Opcode.{number}
use Rattle.ifr_opcodes.specs.declared.codes.TheConstants.{RESET_BUTTON}
use Rattle.ifr_nodes.specs.Nodes.{nodes_of}
use Rattle.hii_varstore.specs.Stores.{StoreMap, shape_of}
use Rattle.hii_varstore.proofs.WriteLemmas.{shape_after}
use Rattle.browser_rules.specs.Configuration.{Header, Block}
use Rattle.config_text.specs.Reading.{configuration_in}
use Rattle.config_text.specs.declared.kind.TextKind.TheVariants.{Ask, Tell}
use Rattle.hii_bytes.specs.declared.cause.Cause.{Cause}
use Rattle.hii_values.specs.Types.{is_password}
use Rattle.hii_values.specs.Inputs as inputs
use Rattle.hii_values.specs.Inputs.{Offer, whole, listed, utf8}
use Rattle.hii_values.specs.declared.denial.DenialKind.{DenialKind}
use Rattle.hii_values.specs.declared.denial.DenialKind.TheVariants.{NotButton, Password}
use Rattle.hii_questions.specs.Fields.{Field, field_of, question_with}
use Rattle.hii_questions.specs.Fits.{fits, values_offered}
use Rattle.hii_questions.specs.Changes.{with_field}
use Rattle.ifr_defaults.specs.Defaults.{default_of}
use Rattle.guard_policy.specs.Policy.{denied_by, fixed, unsubmitted}
use Rattle.guard_policy.specs.declared.denial.Denial.{Denial}
use Rattle.browser_rules.specs.Script as script
use Rattle.browser_rules.specs.Script.{Command}
use Rattle.session_steps.specs.Configuration.{store_named, block_field, block_bytes, question_of_field}
use Rattle.session_steps.specs.State.{State, world_of}
use Rattle.session_steps.specs.Step.{Taken, step, denied, form_of, sources, take_offer, take_default, take_each, questions_in, take_defaults, press_unless_fixed, press_statement, row_of_form, told_why, question_denial, set_question, set_unless_fixed, set_fitting, set_unless_forbidden, value_denial, submit_unless, set_field, set_block, route_to, route_reading}
use Rattle.session_steps.specs.Texts.{count_text}
use Rattle.session_steps.proofs.RoutedLemmas.{extract_leaves, blocks_end}
use Rattle.session_steps.proofs.GoLemmas.{LeavesStores, follow_leaves, back_leaves}

pub field_shape : (m : StoreMap) (o : Option Field) (new : List ℕ) → shape_of (with_field m o new) ≡ shape_of m
field_shape m None new = refl
field_shape m (Some f) new = shape_after m f.store f.offset new

-- The second state has the package of the first, and stores of the same shape.
pub record Keeps (s t : State) : Type 0 where
  pub ifr : t.ifr ≡ s.ifr
  pub committed : shape_of t.committed ≡ shape_of s.committed
  pub working : shape_of t.working ≡ shape_of s.working

keeps_all : (s : State) → Keeps s s
keeps_all s = record { ifr = refl; committed = refl; working = refl }

forbidden_keeps : (s : State) (new : StoreMap) (q : Node) (o : Option Denial) → shape_of new ≡ shape_of s.working → Keeps s (set_unless_forbidden s new q o).state
forbidden_keeps s new q (Some d) same = keeps_all s
forbidden_keeps s new q None same = record { ifr = refl; committed = refl; working = same }

fitting_keeps : (s : State) (q : Node) (values : List ℕ) (r : Result (List ℕ) DenialKind) → Keeps s (set_fitting s q values r).state
fitting_keeps s q values (Err _) = keeps_all s
fitting_keeps s q values (Ok bytes) =
    let new = with_field s.working (field_of (nodes_of s.ifr) q) bytes in
    forbidden_keeps s new q (value_denial (world_of s) new q values) (field_shape s.working (field_of (nodes_of s.ifr) q) bytes)

unless_keeps : (s : State) (q : Node) (offer : Offer) (o : Option Denial) → Keeps s (set_unless_fixed s q offer o).state
unless_keeps s q offer (Some d) = keeps_all s
unless_keeps s q offer None = fitting_keeps s q (values_offered q offer) (fits (nodes_of s.ifr) q offer)

pub set_keeps : (s : State) (offer : Offer) (o : Option Node) → Keeps s (set_question s o offer).state
set_keeps s offer None = keeps_all s
set_keeps s offer (Some q) = unless_keeps s q offer (fixed (world_of s) q)

why_keeps : (s : State) (o : Option Denial) → Keeps s (told_why s o).state
why_keeps s None = keeps_all s
why_keeps s (Some d) = keeps_all s

leaves_keep : (s t : State) → LeavesStores s t → Keeps s t
leaves_keep s t leaves = record { ifr = leaves.ifr; committed = ap shape_of leaves.committed; working = ap shape_of leaves.working }

pub offer_keeps : (t : Taken) (q : Node) (o : Option Offer) → Keeps t.state (take_offer t q o).state
offer_keeps t q None = keeps_all t.state
offer_keeps t q (Some offer) = set_keeps t.state offer (Some q)

each_keeps : (class : ℕ) (t : Taken) (qs : List Node) → Keeps t.state (take_each class t qs).state
each_keeps class t [] = keeps_all t.state
each_keeps class t (q ∷ qs) =
    let first = offer_keeps t q (default_of (sources t.state) q class) in
    let later = each_keeps class (take_default class t q) qs in
    record { ifr = later.ifr ∙ first.ifr; committed = later.committed ∙ first.committed; working = later.working ∙ first.working }

defaults_keep : (s : State) (class : ℕ) → Keeps s (take_defaults s class).state
defaults_keep s class = each_keeps class record { state = s; questions = [] } (questions_in (form_of s))

unfixed_keeps : (s : State) (button : Node) (o : Option Denial) → Keeps s (press_unless_fixed s button o).state
unfixed_keeps s button (Some d) = keeps_all s
unfixed_keeps s button None = defaults_keep s (reset_default button.op)

button_keeps : (s : State) (n : Node) (is : Bool) → Keeps s (cond is (press_unless_fixed s n (fixed (world_of s) n)) (denied s (denied_by NotButton n))).state
button_keeps s n true = unfixed_keeps s n (fixed (world_of s) n)
button_keeps s n false = keeps_all s

press_keeps : (s : State) (o : Option Node) → Keeps s (press_statement s o).state
press_keeps s None = keeps_all s
press_keeps s (Some n) = button_keeps s n (number n.op == RESET_BUTTON)

field_keeps : (s : State) (q : Node) (bytes : List ℕ) (is : Bool) → Keeps s (cond is (denied s (denied_by Password q)) (set_question s (Some q) (inputs.field bytes))).state
field_keeps s q bytes true = keeps_all s
field_keeps s q bytes false = set_keeps s (inputs.field bytes) (Some q)

pub set_field_keeps : (s : State) (o : Option Node) (bytes : List ℕ) → Keeps s (set_field s o bytes).state
set_field_keeps s None bytes = keeps_all s
set_field_keeps s (Some q) bytes = field_keeps s q bytes (is_password q)

block_keeps : (before s : State) (store : ℕ) (block : Block) → Keeps before s → Keeps before (set_block s store block).state
block_keeps before s store block keeps =
    let next = set_field_keeps s (question_of_field (world_of s) (nodes_of s.ifr) (block_field store block)) (block_bytes block) in
    record { ifr = next.ifr ∙ keeps.ifr; committed = next.committed ∙ keeps.committed; working = next.working ∙ keeps.working }

routed_keeps : (s : State) (blocks : List Block) (o : Option ℕ) → Keeps s (route_to s blocks o).state
routed_keeps s blocks None = keeps_all s
routed_keeps s blocks (Some store) = blocks_end (Keeps s) s s (count_text (length blocks)) store blocks (keeps_all s) (keeps_all s) (λ t block keeps. block_keeps s t store block keeps)

route_keeps : (s : State) (r : Result (Header × List Block) Cause) → Keeps s (route_reading s r).state
route_keeps s (Err cause) = keeps_all s
route_keeps s (Ok (named, blocks)) = routed_keeps s blocks (store_named (nodes_of s.ifr) s.path named)

submit_keeps : (s : State) (o : Option Denial) → shape_of s.committed ≡ shape_of s.working → Keeps s (submit_unless s o).state
submit_keeps s None same = record { ifr = refl; committed = sym same; working = refl }
submit_keeps s (Some d) same = keeps_all s

-- a command leaves the package and the shape of the stores
pub step_keeps : (s : State) (command : Command) → shape_of s.committed ≡ shape_of s.working → Keeps s (step s command).state
step_keeps s (script.Set id value) same = set_keeps s (whole value) (question_with (nodes_of s.ifr) id)
step_keeps s (script.Order id numbers) same = set_keeps s (listed numbers) (question_with (nodes_of s.ifr) id)
step_keeps s (script.Text id text) same = set_keeps s (utf8 text) (question_with (nodes_of s.ifr) id)
step_keeps s (script.Why id) same = why_keeps s (question_denial s (question_with (nodes_of s.ifr) id))
step_keeps s (script.Go id) same = leaves_keep s _ (follow_leaves s (question_with (nodes_of s.ifr) id))
step_keeps s script.Back same = leaves_keep s _ (back_leaves s (slice_get s.history (length s.history - 1)))
step_keeps s (script.Press row) same = press_keeps s (row_of_form s row (form_of s))
step_keeps s (script.Defaults class) same = defaults_keep s class
step_keeps s (script.Extract request) same = leaves_keep s _ (extract_leaves s (configuration_in Ask request))
step_keeps s (script.Route response) same = route_keeps s (configuration_in Tell response)
step_keeps s script.Page same = keeps_all s
step_keeps s (script.Lang language) same = record { ifr = refl; committed = refl; working = refl }
step_keeps s script.Submit same = submit_keeps s (unsubmitted (world_of s)) same
step_keeps s script.Discard same = record { ifr = refl; committed = refl; working = same }
