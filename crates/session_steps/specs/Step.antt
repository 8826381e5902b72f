-- What a command does: the state that it leaves, its text and whether it was carried out (own rule).
use Rattle.std.specs.Prelude.{ℕ, ◌-◌, ◌==◌, ◌&&◌, Bool, not, nat_lt, if◌then◌else◌, Option, Some, None, option_and_then, option_map, Result, Ok, Err, List, [], ◌∷◌, ◌++◌, length, slice_get, take, map, filter, codes}
use Rattle.std.specs.List.{flat_map}
use Rattle.std.specs.Option.{unwrap_or}
use Rattle.browser_rules.specs.Configuration.{Header, Block, blocks_asked}
use Rattle.config_text.specs.Reading.{configuration_in}
use Rattle.config_text.specs.Written.{response_to}
use Rattle.config_text.specs.declared.kind.TextKind.TheVariants.{Ask, Tell}
use Rattle.hii_bytes.specs.declared.cause.Cause.{Cause}
use Rattle.hii_bytes.specs.declared.cause.Cause.TheVariants.{BadCommand, LineTooLong}
use Rattle.ifr_opcodes.specs.Forest.{Node, node_at}
use Rattle.ifr_opcodes.specs.Fields.{question_id, ref_target, reset_default}
use Rattle.ifr_opcodes.specs.Opcode.{number}
use Rattle.ifr_opcodes.specs.declared.codes.TheConstants.{RESET_BUTTON}
use Rattle.ifr_nodes.specs.Nodes.{nodes_of, is_question, is_reference, statements}
use Rattle.ifr_nodes.specs.ReferenceFaults.{form_with}
use Rattle.ifr_nodes.specs.Rules.{rules_among}
use Rattle.browser_rules.specs.Strings.{chosen, text_of}
use Rattle.hii_varstore.specs.Stores.{StoreMap, are_same_bytes, bytes_of}
use Rattle.hii_values.specs.Types.{is_password}
use Rattle.hii_values.specs.Inputs as inputs
use Rattle.hii_values.specs.Inputs.{Offer, whole, listed, utf8}
use Rattle.hii_values.specs.declared.denial.DenialKind.{DenialKind}
use Rattle.hii_values.specs.declared.denial.DenialKind.TheVariants.{NoQuestion, NotRef, NotButton, NoRow, NoBack, DeepHistory, NoStore, NoField, Password, Outside}
use Rattle.hii_questions.specs.Answers.{answers}
use Rattle.hii_questions.specs.Changes.{field_bytes, with_field}
use Rattle.hii_questions.specs.Fields.{field_of, question_with}
use Rattle.hii_questions.specs.Fits.{fits, values_offered}
use Rattle.ifr_defaults.specs.Defaults.{Sources, default_of}
use Rattle.guard_policy.specs.Policy.{denied_by, or_else, hidden, fixed, first_closed, inconsistent, warned, unsubmitted}
use Rattle.guard_policy.specs.Warned.{warning_of}
use Rattle.guard_policy.specs.World.{World, world_over}
use Rattle.guard_policy.specs.declared.denial.Denial.{Denial}
use Rattle.form_page.specs.Pages.{page_text, statement_in_row}
use Rattle.browser_rules.specs.Script as script
use Rattle.browser_rules.specs.Script.{Command, command_of, without_return}
use Rattle.browser_rules.specs.Words as words
use Rattle.session_steps.specs.State.{State, world_with, world_of, texts}
use Rattle.session_steps.specs.Configuration.{store_named, block_field, leaves_store, password_in, block_bytes, question_of_field}
use Rattle.session_steps.specs.Texts.{ok_text, count_text, changed_text, denied_text, warning_line, refused_text}
use Rattle.session_steps.specs.declared.reply.Reply.{Reply}
use Rattle.session_steps.specs.declared.reply.Reply.TheVariants.{Accepted, Denied, Refused}

-- the state that a command leaves, its text, and how it was answered
pub record Outcome : Type 0 where
  pub state : State
  pub text : List ℕ
  pub reply : Reply

abbrev pub accepted : State → List ℕ → Outcome
accepted s text = record { state = s; text = text; reply = Accepted }

-- A denied command and a refused line change nothing.
abbrev pub denied : State → Denial → Outcome
denied s denial =
    record { state = s; text = denied_text (texts s denial.message) denial; reply = Denied denial }

abbrev pub refused : State → Cause → Outcome
refused s cause = record { state = s; text = refused_text cause; reply = Refused cause }

-- a denial that no opcode decides
abbrev pub denied_by_none : DenialKind → Denial
denied_by_none kind = record { kind = kind; place = 0; message = 0 }

-- ---- page

-- the current form
abbrev pub form_of : State → Option Node
form_of s = node_at (nodes_of s.ifr) s.form

abbrev pub page_at : State → Option Node → List ℕ
page_at s None = []
page_at s (Some form) = page_text (texts s) (world_of s) s.working form

abbrev pub show_page : State → Outcome
show_page s = accepted s (page_at s (form_of s))

-- ---- a question that a command names: it is there, and may be changed

abbrev pub no_question : Denial
no_question = denied_by_none NoQuestion

abbrev pub question_denial : State → Option Node → Option Denial
question_denial s None = Some no_question
question_denial s (Some q) = fixed (world_of s) q

-- ---- why

abbrev pub told_why : State → Option Denial → Outcome
told_why s None = accepted s ok_text
told_why s (Some denial) = denied s denial

abbrev pub why_question : State → Option Node → Outcome
why_question s q = told_why s (question_denial s q)

-- ---- set, order and text: the question takes the value, options of the value are not all fixed, and no INCONSISTENT_IF of the
-- question holds over the stores with the new field

-- what forbids a value that the question has in new stores, where these values of options were offered
abbrev pub value_denial : World → StoreMap → Node → List ℕ → Option Denial
value_denial w new q values =
    or_else (first_closed w q values) (inconsistent (world_over w.nodes w.removed new) q)

-- the lines of the warnings of a question, over new stores
abbrev pub warned_text : State → StoreMap → Node → List ℕ
warned_text s new q =
    flat_map (warning_line (texts s)) (map warning_of (warned (world_with s new) q))

abbrev pub set_unless_forbidden : State → StoreMap → Node → Option Denial → Outcome
set_unless_forbidden s new q (Some denial) = denied s denial
set_unless_forbidden s new q None =
    accepted (record s { working = new }) (ok_text ++ warned_text s new q)

abbrev pub set_stores : State → StoreMap → Node → List ℕ → Outcome
set_stores s new q values =
    set_unless_forbidden s new q (value_denial (world_of s) new q values)

abbrev pub set_fitting : State → Node → List ℕ → Result (List ℕ) DenialKind → Outcome
set_fitting s q values (Err kind) =
    denied s record { kind = kind; place = q.place; message = 0 }
set_fitting s q values (Ok bytes) =
    set_stores s (with_field s.working (field_of (nodes_of s.ifr) q) bytes) q values

abbrev pub set_unless_fixed : State → Node → Offer → Option Denial → Outcome
set_unless_fixed s q offer (Some denial) = denied s denial
set_unless_fixed s q offer None =
    set_fitting s q (values_offered q offer) (fits (nodes_of s.ifr) q offer)

abbrev pub set_question : State → Option Node → Offer → Outcome
set_question s None offer = denied s no_question
set_question s (Some q) offer = set_unless_fixed s q offer (fixed (world_of s) q)

-- ---- defaults: the questions of the current form, one after the other by place, are set to their defaults of a class; those
-- that have none, or may not have it, stay as they are (UEFI 2.8, 33.2.5.8 Defaults)

-- a state, and the questions that took their defaults
pub record Taken : Type 0 where
  pub state : State
  pub questions : List Node

-- what the defaults of a form set are taken from
abbrev pub sources : State → Sources
sources s = record {
  rules = rules_among (nodes_of s.ifr);
  answers = answers (nodes_of s.ifr) s.working;
  texts = text_of s.spoken s.language;
}

abbrev pub taken_if : List Node → Node → Reply → List Node
taken_if qs q Accepted = qs ++ q ∷ []
taken_if qs q _ = qs

abbrev pub take_set : List Node → Node → Outcome → Taken
take_set qs q set = record { state = set.state; questions = taken_if qs q set.reply }

abbrev pub take_offer : Taken → Node → Option Offer → Taken
take_offer t q None = t
take_offer t q (Some offer) = take_set t.questions q (set_question t.state (Some q) offer)

-- a question takes its default over the stores that the questions before it have left
abbrev pub take_default : ℕ → Taken → Node → Taken
take_default class t q = take_offer t q (default_of (sources t.state) q class)

abbrev pub take_each : ℕ → Taken → List Node → Taken
take_each class t [] = t
take_each class t (q ∷ qs) = take_each class (take_default class t q) qs

abbrev pub questions_in : Option Node → List Node
questions_in None = []
questions_in (Some form) = filter is_question (statements form)

-- what the current form's questions leave when they take their defaults
abbrev pub taken : State → ℕ → Taken
taken s class = take_each class record { state = s; questions = [] } (questions_in (form_of s))

abbrev pub take_defaults : State → ℕ → Outcome
take_defaults s class =
    accepted (taken s class).state (count_text (length (taken s class).questions))

-- ---- press: the button in a row of the page sets the defaults of its class

abbrev pub press_unless_fixed : State → Node → Option Denial → Outcome
press_unless_fixed s button (Some denial) = denied s denial
press_unless_fixed s button None = take_defaults s (reset_default button.op)

abbrev pub press_statement : State → Option Node → Outcome
press_statement s None = denied s (denied_by_none NoRow)
press_statement s (Some n) =
    if number n.op == RESET_BUTTON then press_unless_fixed s n (fixed (world_of s) n)
    else denied s (denied_by NotButton n)

abbrev pub row_of_form : State → ℕ → Option Node → Option Node
row_of_form s row None = None
row_of_form s row (Some form) = statement_in_row (world_of s) form row

abbrev pub press : State → ℕ → Outcome
press s row = press_statement s (row_of_form s row (form_of s))

-- ---- go: a reference that may be selected leads to a form that is not hidden, and the current form is kept, where fewer than 32
-- are (UEFI 2.8, 33.3.8.3, EFI_IFR_REF; the history is an own rule)

abbrev pub show_form : State → Node → Outcome
show_form s form =
    if nat_lt (length s.history) 32
    then accepted (record s { form = form.place; history = s.history ++ s.form ∷ [] }) ok_text
    else denied s (denied_by_none DeepHistory)

abbrev pub show_unless_hidden : State → Node → Option Denial → Outcome
show_unless_hidden s form (Some denial) = denied s denial
show_unless_hidden s form None = show_form s form

-- A reference that leads to no form of the form set is outside.
abbrev pub go_to : State → Node → Option Node → Outcome
go_to s q None = denied s (denied_by Outside q)
go_to s q (Some form) = show_unless_hidden s form (hidden (world_of s) form)

abbrev pub go_unless_fixed : State → Node → Option Denial → Outcome
go_unless_fixed s q (Some denial) = denied s denial
go_unless_fixed s q None =
    go_to s q (option_and_then (form_with (nodes_of s.ifr)) (ref_target q.op))

abbrev pub follow : State → Option Node → Outcome
follow s None = denied s no_question
follow s (Some q) =
    if is_reference q then go_unless_fixed s q (fixed (world_of s) q)
    else denied s (denied_by NotRef q)

-- ---- back: the form that was left last is the current one again, whatever hides it

abbrev pub go_back_to : State → Option ℕ → Outcome
go_back_to s None = denied s (denied_by_none NoBack)
go_back_to s (Some place) =
    accepted (record s { form = place; history = take (length s.history - 1) s.history }) ok_text

abbrev pub go_back : State → Outcome
go_back s = go_back_to s (slice_get s.history (length s.history - 1))

-- ---- extract: the bytes of a store's blocks as they were last submitted, where no password is told (UEFI 2.8, 34.2.1 String
-- Grammar; what is not told is an own rule)

-- what forbids that a block of a store of so many bytes is told
abbrev pub telling_denial : List Node → ℕ → ℕ → Block → Option Denial
telling_denial ns store size block =
    if leaves_store size block then Some (denied_by_none NoField)
    else option_map (λ q. denied_by Password q.node) (password_in ns (block_field store block))

-- the first block that may not be told denies
abbrev pub first_untold : List Node → ℕ → ℕ → List Block → Option Denial
first_untold ns store size [] = None
first_untold ns store size (block ∷ blocks) =
    or_else (telling_denial ns store size block) (first_untold ns store size blocks)

abbrev pub configuration_text : Header × List Block → List ℕ → List ℕ
configuration_text request bytes = codes "CONFIG " ++ response_to request bytes ++ codes "\n"

abbrev pub extract_unless : State → List ℕ → Option Denial → Outcome
extract_unless s text (Some denial) = denied s denial
extract_unless s text None = accepted s text

-- the blocks of a request, over the bytes of the store
abbrev pub extract_bytes : State → Header × List Block → ℕ → List ℕ → Outcome
extract_bytes s request store bytes =
    extract_unless s (configuration_text request bytes)
    (first_untold (nodes_of s.ifr) store (length bytes) (blocks_asked request.1 (length bytes)))

abbrev pub extract_from : State → Header × List Block → Option ℕ → Outcome
extract_from s request None = denied s (denied_by_none NoStore)
extract_from s request (Some store) =
    extract_bytes s request store (unwrap_or (bytes_of s.committed store) [])

abbrev pub extract_reading : State → Result (Header × List Block) Cause → Outcome
extract_reading s (Err cause) = refused s cause
extract_reading s (Ok request) =
    extract_from s request (store_named (nodes_of s.ifr) s.path request.0)

abbrev pub extract : State → List ℕ → Outcome
extract s text = extract_reading s (configuration_in Ask text)

-- ---- route: the questions of all blocks take their values, one after the other, or none does (an own rule)

-- the question of a block takes its value, where it is no password
abbrev pub set_field : State → Option Node → List ℕ → Outcome
set_field s None bytes = denied s (denied_by_none NoField)
set_field s (Some q) bytes =
    if is_password q then denied s (denied_by Password q)
    else set_question s (Some q) (inputs.field bytes)

abbrev pub set_block : State → ℕ → Block → Outcome
set_block s store block =
    set_field s (question_of_field (world_of s) (nodes_of s.ifr) (block_field store block))
    (block_bytes block)

-- A block that is denied leaves what was there before all blocks.
abbrev pub go_on : State → Reply → Outcome → Outcome
go_on before Accepted next = next
go_on before (Denied denial) next = denied before denial
go_on before (Refused cause) next = refused before cause

-- each block is set over the stores that the blocks before it have left
abbrev pub set_blocks : State → List ℕ → ℕ → State → List Block → Outcome
set_blocks before text store s [] = accepted s text
set_blocks before text store s (block ∷ blocks) =
    go_on before (set_block s store block).reply
    (set_blocks before text store (set_block s store block).state blocks)

abbrev pub route_to : State → List Block → Option ℕ → Outcome
route_to s blocks None = denied s (denied_by_none NoStore)
route_to s blocks (Some store) = set_blocks s (count_text (length blocks)) store s blocks

abbrev pub route_reading : State → Result (Header × List Block) Cause → Outcome
route_reading s (Err cause) = refused s cause
route_reading s (Ok (named, blocks)) =
    route_to s blocks (store_named (nodes_of s.ifr) s.path named)

abbrev pub route : State → List ℕ → Outcome
route s text = route_reading s (configuration_in Tell text)

-- ---- submit and discard

-- the field of a question holds other bytes than when it was last submitted
abbrev pub is_other : State → Node → Bool
is_other s n =
    not (are_same_bytes (field_bytes s.committed (field_of (nodes_of s.ifr) n))
    (field_bytes s.working (field_of (nodes_of s.ifr) n)))

-- the questions whose fields hold other bytes than when they were last submitted, by place
abbrev pub is_changed : State → Node → Bool
is_changed s n = is_question n && is_other s n

abbrev pub changed : State → List Node
changed s = filter (is_changed s) (nodes_of s.ifr)

abbrev pub commit : State → Outcome
commit s =
    accepted (record s { committed = s.working })
    (count_text (length (changed s))
    ++ flat_map (λ n. changed_text (question_id n.op)) (changed s))

abbrev pub submit_unless : State → Option Denial → Outcome
submit_unless s (Some denial) = denied s denial
submit_unless s None = commit s

abbrev pub submitted : State → Outcome
submitted s = submit_unless s (unsubmitted (world_of s))

-- ---- a command

abbrev pub step : State → Command → Outcome
step s script.Page = show_page s
step s (script.Set id value) = set_question s (question_with (nodes_of s.ifr) id) (whole value)
step s (script.Order id numbers) =
    set_question s (question_with (nodes_of s.ifr) id) (listed numbers)
step s (script.Text id text) = set_question s (question_with (nodes_of s.ifr) id) (utf8 text)
step s (script.Go id) = follow s (question_with (nodes_of s.ifr) id)
step s script.Back = go_back s
step s (script.Press row) = press s row
step s (script.Defaults class) = take_defaults s class
step s (script.Extract request) = extract s request
step s (script.Route response) = route s response
step s (script.Why id) = why_question s (question_with (nodes_of s.ifr) id)
step s (script.Lang language) =
    accepted (record s { language = chosen s.spoken language }) ok_text
step s script.Submit = submitted s
step s script.Discard = accepted (record s { working = s.committed }) ok_text

-- ---- a line of a script

-- A line is no command because it is too long, or by BadCommand.
abbrev pub line_cause : words.Cause → Cause
line_cause words.LineTooLong = LineTooLong
line_cause _ = BadCommand

abbrev pub step_reading : State → Result Command words.Cause → Outcome
step_reading s (Ok command) = step s command
step_reading s (Err cause) = refused s (line_cause cause)

-- An empty line, or a CR alone, does nothing.
abbrev pub step_text : State → List ℕ → List ℕ → Outcome
step_text s line [] = accepted s []
step_text s line (b ∷ bytes) = step_reading s (command_of line)

abbrev pub step_line : State → List ℕ → Outcome
step_line s line = step_text s line (without_return line)
