-- What commands leave as it is.
use Rattle.std.specs.Prelude.{◌≡◌, ◌⊎◌, ℕ, ◌+◌, ◌<◌, ◌≤◌, Contains, Option, Some, None, Result, Ok, Err, List, [], ◌∷◌, map, ⊤}
use Rattle.std.specs.List.{filter_map}
use Rattle.hii_bytes.specs.declared.cause.Cause.{Cause}
use Rattle.browser_rules.specs.Configuration.{Header, Block}
use Rattle.config_text.specs.Reading.{configuration_in}
use Rattle.config_text.specs.declared.kind.TextKind.TheVariants.{Tell}
use Rattle.ifr_opcodes.specs.Forest.{Node}
use Rattle.ifr_nodes.specs.Nodes.{nodes_of}
use Rattle.hii_varstore.specs.Stores.{byte_of}
use Rattle.hii_questions.specs.Fields.{Field, field_of, question_with}
use Rattle.browser_rules.specs.Script as script
use Rattle.browser_rules.specs.Script.{Command}
use Rattle.session_steps.specs.State.{State}
use Rattle.session_steps.specs.Configuration.{store_named, block_field}
use Rattle.session_steps.specs.Renewed.{named_if, pressed_if}
use Rattle.session_steps.specs.Step.{form_of, taken, row_of_form, press, route, changed, submitted, step}
use Rattle.session_steps.specs.declared.reply.Reply.{Reply}
use Rattle.session_steps.specs.declared.reply.Reply.TheVariants.{Accepted}

-- the state after some commands
abbrev pub state_with : State → List Command → State
state_with s [] = s
state_with s (command ∷ commands) = state_with (step s command).state commands

-- the texts of some commands, one for each
abbrev pub answers_to : State → List Command → List (List ℕ)
answers_to s [] = []
answers_to s (command ∷ commands) = (step s command).text ∷ answers_to (step s command).state commands

-- ---- the fields that a command names

-- the fields of some questions
abbrev pub fields_of : List Node → List Node → List Field
fields_of ns qs = filter_map (field_of ns) qs

-- the fields of blocks, where their store is there
abbrev pub block_fields : List Block → Option ℕ → List Field
block_fields blocks None = []
block_fields blocks (Some store) = map (block_field store) blocks

abbrev pub response_fields : State → Result (Header × List Block) Cause → List Field
response_fields s (Err cause) = []
response_fields s (Ok (named, blocks)) =
    block_fields blocks (store_named (nodes_of s.ifr) s.path named)

-- some fields, where a command is carried out
abbrev pub where_accepted : Reply → List Field → List Field
where_accepted Accepted fields = fields
where_accepted _ fields = []

-- The fields that a command names, where it is carried out: that of its question, those of the questions that take their
-- defaults, those of its blocks, or those of the questions that are changed. A command that is not carried out names none.
abbrev pub named_fields : State → Command → List Field
named_fields s script.Page = []
named_fields s (script.Set id value) =
    fields_of (nodes_of s.ifr)
    (named_if (question_with (nodes_of s.ifr) id) (step s (script.Set id value)).reply)
named_fields s (script.Order id numbers) =
    fields_of (nodes_of s.ifr)
    (named_if (question_with (nodes_of s.ifr) id) (step s (script.Order id numbers)).reply)
named_fields s (script.Text id text) =
    fields_of (nodes_of s.ifr)
    (named_if (question_with (nodes_of s.ifr) id) (step s (script.Text id text)).reply)
named_fields s (script.Go id) = []
named_fields s script.Back = []
named_fields s (script.Press row) =
    fields_of (nodes_of s.ifr)
    (pressed_if s (row_of_form s row (form_of s)) (press s row).reply)
named_fields s (script.Defaults class) = fields_of (nodes_of s.ifr) (taken s class).questions
named_fields s (script.Extract request) = []
named_fields s (script.Route response) =
    where_accepted (route s response).reply
    (response_fields s (configuration_in Tell response))
named_fields s (script.Why id) = []
named_fields s (script.Lang language) = []
named_fields s script.Submit =
    where_accepted (submitted s).reply (fields_of (nodes_of s.ifr) (changed s))
named_fields s script.Discard = fields_of (nodes_of s.ifr) (changed s)

-- One of some fields has this byte of a store.
abbrev pub HaveByte : List Field → ℕ → ℕ → Type 0
HaveByte fields store at =
    (field : Field) × Contains fields field × (store ≡ field.store) × (field.offset ≤ at)
    × (at < field.offset + field.width)

-- A further command changes no byte of the stores that commands read or of those that are submitted but in the fields that it
-- names.
abbrev pub ChangesNamedBytesAlone : Type 0
ChangesNamedBytesAlone =
    (start : State) (commands : List Command) (command : Command) (store at : ℕ)
    → start.committed ≡ start.working
    → (HaveByte (named_fields (state_with start commands) command) store at → ⊥)
    → (byte_of (step (state_with start commands) command).state.working store at
    ≡ byte_of (state_with start commands).working store at)
    × (byte_of (step (state_with start commands) command).state.committed store at
    ≡ byte_of (state_with start commands).committed store at)

-- ---- bytes that stay as they were submitted

-- Submit and discard copy the fields that they name; any other command sets them.
abbrev pub SetsFields : Command → Type 0
SetsFields script.Submit = ⊥
SetsFields script.Discard = ⊥
SetsFields _ = ⊤

-- A command sets this byte of a store.
abbrev pub SetsByte : State → Command → ℕ → ℕ → Type 0
SetsByte s command store at = SetsFields command × HaveByte (named_fields s command) store at

-- one of some commands does so
abbrev pub SomeSetsByte : State → List Command → ℕ → ℕ → Type 0
SomeSetsByte s [] store at = ⊥
SomeSetsByte s (command ∷ commands) store at =
    SetsByte s command store at ⊎ SomeSetsByte (step s command).state commands store at

-- A byte that is submitted as it stands, and that no command sets, stays in the stores that commands read and in those
-- that are submitted.
abbrev pub KeepsOtherBytes : Type 0
KeepsOtherBytes =
    (s : State) (commands : List Command) (store at : ℕ)
    → byte_of s.working store at ≡ byte_of s.committed store at
    → (SomeSetsByte s commands store at → ⊥)
    → (byte_of (state_with s commands).working store at ≡ byte_of s.committed store at)
    × (byte_of (state_with s commands).committed store at ≡ byte_of s.committed store at)
