-- What commands write into the stores that they change, and how many conditions are evaluated anew after that (own rule).
use Rattle.std.specs.Prelude.{ℕ, ◌-◌, ◌^◌, min, Bool, Option, Some, None, Result, Ok, Err, List, [], ◌∷◌, ◌++◌}
use Rattle.std.specs.List.{flat_map, sum_by}
use Rattle.browser_rules.specs.Configuration.{Header, Block}
use Rattle.config_text.specs.Reading.{configuration_in}
use Rattle.config_text.specs.declared.kind.TextKind.TheVariants.{Tell}
use Rattle.hii_bytes.specs.declared.cause.Cause.{Cause}
use Rattle.ifr_opcodes.specs.Fields.{reset_default}
use Rattle.ifr_opcodes.specs.Forest.{Node}
use Rattle.ifr_nodes.specs.Nodes.{nodes_of}
use Rattle.hii_questions.specs.Fields.{Field, field_of, question_with}
use Rattle.browser_rules.specs.Script as script
use Rattle.browser_rules.specs.Script.{Command, command_of, without_return}
use Rattle.browser_rules.specs.Words as words
use Rattle.kept_conditions.specs.Touching.{difference, range_of_field, renewals}
use Rattle.session_steps.specs.State.{State, world_of}
use Rattle.session_steps.specs.Configuration.{store_named, block_field, question_of_field}
use Rattle.session_steps.specs.Step.{form_of, taken, row_of_form, press, set_block, route_to, step, step_line}
use Rattle.session_steps.specs.declared.reply.Reply.{Reply}
use Rattle.session_steps.specs.declared.reply.Reply.TheVariants.{Accepted}

-- ---- writes

-- A write is the bytes that it writes, by a test of a store's id and an offset.
abbrev pub Write : Type 0
Write = ℕ → ℕ → Bool

-- A question that takes a value writes all bytes of its field, those that were there before too.
abbrev pub write_of : Option Field → List Write
write_of None = []
write_of (Some field) = range_of_field field ∷ []

abbrev pub field_write : List Node → Node → List Write
field_write ns q = write_of (field_of ns q)

abbrev pub field_writes : List Node → List Node → List Write
field_writes ns qs = flat_map (field_write ns) qs

-- the question that a command names, where it is carried out
abbrev pub named_if : Option Node → Reply → List Node
named_if (Some q) Accepted = q ∷ []
named_if _ _ = []

-- the questions that took their defaults at a button, where it was pressed
abbrev pub pressed_if : State → Option Node → Reply → List Node
pressed_if s (Some button) Accepted = (taken s (reset_default button.op)).questions
pressed_if s _ _ = []

-- what blocks write up to the first that is denied, and the state that they leave
pub record Blocks : Type 0 where
  pub writes : List Write
  pub state : State

abbrev pub and_then : State → Option Node → Reply → Blocks → Blocks
and_then s (Some q) Accepted next =
    record { writes = field_write (nodes_of s.ifr) q ++ next.writes; state = next.state }
and_then s _ _ next = record { writes = []; state = s }

abbrev pub written_by : State → ℕ → List Block → Blocks
written_by s store [] = record { writes = []; state = s }
written_by s store (block ∷ blocks) =
    and_then s (question_of_field (world_of s) (nodes_of s.ifr) (block_field store block))
    (set_block s store block).reply (written_by (set_block s store block).state store blocks)

-- A response of which a block is denied gives back what the blocks before it have written: the bytes in which the stores
-- differ then from those before all blocks.
abbrev pub and_back : State → Blocks → Reply → List Write
and_back s blocks Accepted = blocks.writes
and_back s blocks _ = blocks.writes ++ difference blocks.state.working s.working ∷ []

abbrev pub route_writes : State → List Block → Option ℕ → List Write
route_writes s blocks None = []
route_writes s blocks (Some store) =
    and_back s (written_by s store blocks) (route_to s blocks (Some store)).reply

abbrev pub response_writes : State → Result (Header × List Block) Cause → List Write
response_writes s (Err cause) = []
response_writes s (Ok (named, blocks)) =
    route_writes s blocks (store_named (nodes_of s.ifr) s.path named)

-- the writes of a command, in their order
abbrev pub writes_of : State → Command → List Write
writes_of s (script.Set id value) =
    field_writes (nodes_of s.ifr)
    (named_if (question_with (nodes_of s.ifr) id) (step s (script.Set id value)).reply)
writes_of s (script.Order id numbers) =
    field_writes (nodes_of s.ifr)
    (named_if (question_with (nodes_of s.ifr) id) (step s (script.Order id numbers)).reply)
writes_of s (script.Text id text) =
    field_writes (nodes_of s.ifr)
    (named_if (question_with (nodes_of s.ifr) id) (step s (script.Text id text)).reply)
writes_of s (script.Press row) =
    field_writes (nodes_of s.ifr) (pressed_if s (row_of_form s row (form_of s)) (press s row).reply)
writes_of s (script.Defaults class) = field_writes (nodes_of s.ifr) (taken s class).questions
writes_of s (script.Route response) = response_writes s (configuration_in Tell response)
writes_of s script.Discard = difference s.working s.committed ∷ []
writes_of s _ = []

-- ---- conditions that are evaluated anew

-- For each write of a command those that it touches; 2^64 - 1 where there are more.
abbrev pub renewed_by : State → Command → ℕ
renewed_by s command = min (sum_by (renewals (nodes_of s.ifr)) (writes_of s command)) (2 ^ 64 - 1)

-- what a session shows: the state of the run, and how many conditions the last command evaluated anew
pub record Shown : Type 0 where
  pub state : State
  pub renewed : ℕ

-- what it shows at first
abbrev pub opened : State → Shown
opened s = record { state = s; renewed = 0 }

-- and after a command
abbrev pub shown_after : Shown → Command → Shown
shown_after shown command =
    record { state = (step shown.state command).state; renewed = renewed_by shown.state command }

-- An empty line and one that is no command leave the number.
abbrev pub renewed_reading : Shown → Result Command words.Cause → ℕ
renewed_reading shown (Ok command) = renewed_by shown.state command
renewed_reading shown (Err cause) = shown.renewed

abbrev pub renewed_text : Shown → List ℕ → List ℕ → ℕ
renewed_text shown line [] = shown.renewed
renewed_text shown line (b ∷ bytes) = renewed_reading shown (command_of line)

abbrev pub shown_line : Shown → List ℕ → Shown
shown_line shown line = record {
  state = (step_line shown.state line).state;
  renewed = renewed_text shown line (without_return line);
}
