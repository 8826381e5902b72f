-- A command that is not carried out changes nothing.
use Rattle.std.proofs.Common.{◌≡◌, ℕ, ◌-◌, ◌==◌, Bool, true, false, cond, Option, Some, None, Result, Ok, Err, List, [], ◌∷◌, ◌++◌, length, slice_get, refl}
use Rattle.std.specs.Prelude.{option_and_then, nat_lt}
use Rattle.hii_bytes.specs.declared.cause.Cause.{Cause}
use Rattle.browser_rules.specs.Configuration.{Header, Block}
use Rattle.config_text.specs.Reading.{configuration_in}
use Rattle.config_text.specs.declared.kind.TextKind.TheVariants.{Ask, Tell}
use Rattle.ifr_opcodes.specs.Fields.{ref_target}
use Rattle.ifr_opcodes.specs.Forest.{Node}
use Rattle.ifr_opcodes.specs.Opcode.{number}
use Rattle.ifr_opcodes.specs.declared.codes.TheConstants.{RESET_BUTTON}
use Rattle.ifr_nodes.specs.Nodes.{nodes_of, is_reference}
use Rattle.ifr_nodes.specs.ReferenceFaults.{form_with}
use Rattle.hii_varstore.specs.Stores.{StoreMap}
use Rattle.hii_values.specs.Inputs.{Offer, whole, listed, utf8}
use Rattle.hii_values.specs.declared.denial.DenialKind.{DenialKind}
use Rattle.hii_values.specs.declared.denial.DenialKind.TheVariants.{NotRef, NotButton, DeepHistory}
use Rattle.hii_questions.specs.Changes.{with_field}
use Rattle.hii_questions.specs.Fields.{field_of, question_with}
use Rattle.hii_questions.specs.Fits.{fits, values_offered}
use Rattle.guard_policy.specs.Policy.{denied_by, hidden, fixed, unsubmitted}
use Rattle.guard_policy.specs.declared.denial.Denial.{Denial}
use Rattle.browser_rules.specs.Script as script
use Rattle.browser_rules.specs.Script.{Command, command_of, without_return}
use Rattle.browser_rules.specs.Words as words
use Rattle.session_steps.specs.Configuration.{store_named}
use Rattle.session_steps.specs.State.{State, world_of}
use Rattle.session_steps.specs.Step.{Outcome, accepted, denied, denied_by_none, form_of, told_why, question_denial, set_question, set_unless_fixed, set_unless_forbidden, set_fitting, value_denial, press_unless_fixed, press_statement, row_of_form, show_unless_hidden, go_to, go_unless_fixed, follow, go_back_to, set_block, set_blocks, go_on, route_to, route_reading, submit_unless, step, step_reading, step_text, step_line}
use Rattle.session_steps.specs.Texts.{ok_text, count_text}
use Rattle.session_steps.specs.declared.reply.Reply.{Reply}
use Rattle.session_steps.specs.declared.reply.Reply.TheVariants.{Accepted, Denied, Refused}
use Rattle.session_steps.proofs.RoutedLemmas.{extract_state}

-- An outcome leaves the state, unless it is that of a command that is carried out.
abbrev Leaves : State → Outcome → Type 0
Leaves s o = (o.reply ≡ Accepted → ⊥) → o.state ≡ s

-- ---- a question

forbidden_leaves : (s : State) (new : StoreMap) (q : Node) (o : Option Denial) → Leaves s (set_unless_forbidden s new q o)
forbidden_leaves s new q (Some denial) none = refl
forbidden_leaves s new q None none = absurd (none refl)

fitting_leaves : (s : State) (q : Node) (values : List ℕ) (r : Result (List ℕ) DenialKind) → Leaves s (set_fitting s q values r)
fitting_leaves s q values (Err _) none = refl
fitting_leaves s q values (Ok bytes) none =
    let new = with_field s.working (field_of (nodes_of s.ifr) q) bytes in
    forbidden_leaves s new q (value_denial (world_of s) new q values) none

unless_leaves : (s : State) (q : Node) (offer : Offer) (o : Option Denial) → Leaves s (set_unless_fixed s q offer o)
unless_leaves s q offer (Some denial) none = refl
unless_leaves s q offer None none = fitting_leaves s q (values_offered q offer) (fits (nodes_of s.ifr) q offer) none

set_leaves : (s : State) (o : Option Node) (offer : Offer) → Leaves s (set_question s o offer)
set_leaves s None offer none = refl
set_leaves s (Some q) offer none = unless_leaves s q offer (fixed (world_of s) q) none

why_leaves : (s : State) (o : Option Denial) → Leaves s (told_why s o)
why_leaves s (Some denial) none = refl
why_leaves s None none = refl

-- ---- a button

unfixed_leaves : (s : State) (button : Node) (o : Option Denial) → Leaves s (press_unless_fixed s button o)
unfixed_leaves s button (Some denial) none = refl
unfixed_leaves s button None none = absurd (none refl)

button_leaves : (s : State) (n : Node) (is : Bool) → Leaves s (cond is (press_unless_fixed s n (fixed (world_of s) n)) (denied s (denied_by NotButton n)))
button_leaves s n true none = unfixed_leaves s n (fixed (world_of s) n) none
button_leaves s n false none = refl

press_leaves : (s : State) (o : Option Node) → Leaves s (press_statement s o)
press_leaves s None none = refl
press_leaves s (Some n) none = button_leaves s n (number n.op == RESET_BUTTON) none

-- ---- from form to form

room_leaves : (s : State) (form : Node) (room : Bool)
    → Leaves s (cond room (accepted (record s { form = form.place; history = s.history ++ s.form ∷ [] }) ok_text) (denied s (denied_by_none DeepHistory)))
room_leaves s form true none = absurd (none refl)
room_leaves s form false none = refl

hidden_leaves : (s : State) (form : Node) (o : Option Denial) → Leaves s (show_unless_hidden s form o)
hidden_leaves s form (Some denial) none = refl
hidden_leaves s form None none = room_leaves s form (nat_lt (length s.history) 32) none

target_leaves : (s : State) (q : Node) (o : Option Node) → Leaves s (go_to s q o)
target_leaves s q None none = refl
target_leaves s q (Some form) none = hidden_leaves s form (hidden (world_of s) form) none

fixed_leaves : (s : State) (q : Node) (o : Option Denial) → Leaves s (go_unless_fixed s q o)
fixed_leaves s q (Some denial) none = refl
fixed_leaves s q None none = target_leaves s q (option_and_then (form_with (nodes_of s.ifr)) (ref_target q.op)) none

reference_leaves : (s : State) (q : Node) (leads : Bool) → Leaves s (cond leads (go_unless_fixed s q (fixed (world_of s) q)) (denied s (denied_by NotRef q)))
reference_leaves s q true none = fixed_leaves s q (fixed (world_of s) q) none
reference_leaves s q false none = refl

follow_leaves : (s : State) (o : Option Node) → Leaves s (follow s o)
follow_leaves s None none = refl
follow_leaves s (Some q) none = reference_leaves s q (is_reference q) none

back_leaves : (s : State) (o : Option ℕ) → Leaves s (go_back_to s o)
back_leaves s None none = refl
back_leaves s (Some place) none = absurd (none refl)

-- ---- the blocks of a response

on_leaves : (before : State) (r : Reply) (next : Outcome) → Leaves before next → Leaves before (go_on before r next)
on_leaves before Accepted next later none = later none
on_leaves before (Denied d) next later none = refl
on_leaves before (Refused cause) next later none = refl

-- blocks that are not all set leave what was there before them
pub blocks_leave : (before s : State) (text : List ℕ) (store : ℕ) (blocks : List Block) → Leaves before (set_blocks before text store s blocks)
blocks_leave before s text store [] none = absurd (none refl)
blocks_leave before s text store (block ∷ blocks) none =
    let next = (set_block s store block).state in
    on_leaves before (set_block s store block).reply (set_blocks before text store next blocks) (blocks_leave before next text store blocks) none

routed_leaves : (s : State) (blocks : List Block) (o : Option ℕ) → Leaves s (route_to s blocks o)
routed_leaves s blocks None none = refl
routed_leaves s blocks (Some store) none = blocks_leave s s (count_text (length blocks)) store blocks none

route_leaves : (s : State) (r : Result (Header × List Block) Cause) → Leaves s (route_reading s r)
route_leaves s (Err cause) none = refl
route_leaves s (Ok (named, blocks)) none = routed_leaves s blocks (store_named (nodes_of s.ifr) s.path named) none

-- ---- a command, and a line

submit_leaves : (s : State) (o : Option Denial) → Leaves s (submit_unless s o)
submit_leaves s (Some denial) none = refl
submit_leaves s None none = absurd (none refl)

pub step_leaves : (s : State) (command : Command) → Leaves s (step s command)
step_leaves s script.Page none = refl
step_leaves s (script.Set id value) none = set_leaves s (question_with (nodes_of s.ifr) id) (whole value) none
step_leaves s (script.Order id numbers) none = set_leaves s (question_with (nodes_of s.ifr) id) (listed numbers) none
step_leaves s (script.Text id text) none = set_leaves s (question_with (nodes_of s.ifr) id) (utf8 text) none
step_leaves s (script.Go id) none = follow_leaves s (question_with (nodes_of s.ifr) id) none
step_leaves s script.Back none = back_leaves s (slice_get s.history (length s.history - 1)) none
step_leaves s (script.Press row) none = press_leaves s (row_of_form s row (form_of s)) none
step_leaves s (script.Defaults class) none = absurd (none refl)
step_leaves s (script.Extract request) none = extract_state s (configuration_in Ask request)
step_leaves s (script.Route response) none = route_leaves s (configuration_in Tell response) none
step_leaves s (script.Why id) none = why_leaves s (question_denial s (question_with (nodes_of s.ifr) id)) none
step_leaves s (script.Lang language) none = absurd (none refl)
step_leaves s script.Submit none = submit_leaves s (unsubmitted (world_of s)) none
step_leaves s script.Discard none = absurd (none refl)

reading_leaves : (s : State) (r : Result Command words.Cause) → Leaves s (step_reading s r)
reading_leaves s (Ok command) none = step_leaves s command none
reading_leaves s (Err cause) none = refl

text_leaves : (s : State) (line text : List ℕ) → Leaves s (step_text s line text)
text_leaves s line [] none = refl
text_leaves s line (b ∷ text) none = reading_leaves s (command_of line) none

pub line_leaves : (s : State) (line : List ℕ) → Leaves s (step_line s line)
line_leaves s line none = text_leaves s line (without_return line) none
