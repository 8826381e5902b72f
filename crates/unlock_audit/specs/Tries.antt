-- What is tried to open a question, and how each try is run (own rule).
use Rattle.std.specs.Prelude.{ℕ, ℤ, Bool, true, false, if◌then◌else◌, is_some, Option, Some, None, option_and_then, option_map, Result, Ok, Err, List, [], ◌∷◌, ◌++◌, filter, map, take}
use Rattle.std.specs.List.{flat_map}
use Rattle.browser_rules.specs.Script as script
use Rattle.ifr_nodes.specs.Nodes.{nodes_of}
use Rattle.hii_varstore.specs.Stores.{StoreMap}
use Rattle.hii_values.specs.Inputs.{whole}
use Rattle.hii_values.specs.Types.{type_of}
use Rattle.hii_values.specs.declared.denial.DenialKind.{DenialKind}
use Rattle.hii_questions.specs.Changes.{with_field}
use Rattle.hii_questions.specs.Fields.{Asked, Field, asked, question_with}
use Rattle.hii_questions.specs.Fits.{fits_field}
use Rattle.guard_policy.specs.World.{removed_at}
use Rattle.session_steps.specs.State.{State}
use Rattle.session_steps.specs.Step.{Outcome, step}
use Rattle.session_steps.specs.declared.reply.Reply.{Reply}
use Rattle.session_steps.specs.declared.reply.Reply.TheVariants.{Accepted}
use Rattle.unlock_audit.specs.Moves.{command}
use Rattle.unlock_audit.specs.Rising.{up_to}
use Rattle.unlock_audit.specs.declared.moves.Move.{Move}

-- some commands, one after the other, or a field that is written
pub data Try : Type 0 where
  commands : (list : List Move) → Try
  write : (move : Move) → Try

-- the state in which each try begins: over the committed stores
abbrev pub discarded : State → State
discarded s = record s { working = s.committed }

-- ---- commands are run: the state that they leave, where all of them are answered with OK

abbrev pub is_accepted : Reply → Bool
is_accepted Accepted = true
is_accepted _ = false

abbrev pub left_if_accepted : Outcome → Option State
left_if_accepted o = if is_accepted o.reply then Some o.state else None

abbrev pub run_on : Option State → List Move → Option State
run_on None list = None
run_on (Some s) [] = Some s
run_on (Some s) (m ∷ list) = run_on (left_if_accepted (step s (command m))) list

abbrev pub run : State → List Move → Option State
run s list = run_on (Some s) list

abbrev pub is_answered : State → List Move → Bool
is_answered s list = is_some (run s list)

-- `why` of the question of an id is answered with OK
abbrev pub is_open : State → ℕ → Bool
is_open s id = is_accepted (step s (script.Why id)).reply

-- ---- a new run over other stores: what a session over their image begins with, where this one had just begun

abbrev pub begun_over : State → StoreMap → State
begun_over s stores =
    record s { removed = removed_at (nodes_of s.ifr) stores; committed = stores; working = stores }

abbrev pub is_open_anew : State → ℕ → Option StoreMap → Bool
is_open_anew s id None = false
is_open_anew s id (Some stores) = is_open (begun_over s stores) id

-- the stores that a `submit` leaves, where it is answered with OK
abbrev pub stores_left : Option State → Option StoreMap
stores_left None = None
stores_left (Some s) = Some s.committed

abbrev pub submits : Option State → Option StoreMap
submits None = None
submits (Some s) = stores_left (left_if_accepted (step s script.Submit))

-- the stores with new bytes in a field, if there are some
abbrev pub with_taken : StoreMap → Option Field → Result (List ℕ) DenialKind → Option StoreMap
with_taken stores field (Err _) = None
with_taken stores field (Ok bytes) = Some (with_field stores field bytes)

-- the new bytes of a field, as far as its question takes the value: each value that is tried is taken, so that these are the value modulo
-- 256^width
abbrev pub bytes_taken : Asked → ℤ → Result (List ℕ) DenialKind
bytes_taken q value = fits_field (type_of q.node) q.field (whole value)

abbrev pub with_value : StoreMap → ℤ → Asked → Option StoreMap
with_value stores value q = with_taken stores q.field (bytes_taken q value)

abbrev pub with_written : State → Move → Option StoreMap
with_written s m =
    option_and_then (with_value s.committed m.value)
    (option_map (asked (nodes_of s.ifr)) (question_with (nodes_of s.ifr) m.id))

-- ---- whether a try opens the question of an id: at once, or in a new run behind a `submit`

abbrev pub opens_behind : Bool → State → ℕ → Option State → Bool
opens_behind again s id None = false
opens_behind again s id (Some after) =
    if again then is_open_anew s id (submits (Some after)) else is_open after id

abbrev pub opens : Bool → State → ℕ → Try → Bool
opens again s id (commands list) = opens_behind again s id (run s list)
opens again s id (write m) = is_open_anew s id (with_written s m)

-- ---- the tries, in their order

-- a list with each command behind it
abbrev pub longer : List Move → List Move → List (List Move)
longer moves list = map (λ m. list ++ m ∷ []) moves

-- those of some lists that are answered with OK, in their order, with each command behind them
abbrev pub longer_each : State → List Move → List (List Move) → List (List Move)
longer_each s moves lists = flat_map (longer moves) (filter (is_answered s) lists)

-- all lists of one command, of two and of three
abbrev pub lists : State → List Move → List (List Move)
lists s moves =
    let ones = longer moves [] in
    let twos = longer_each s moves ones in
    ones ++ twos ++ longer_each s moves twos

-- then writes of one field
abbrev pub tries : State → List Move → List Try
tries s moves = map (λ list. commands list) (lists s moves) ++ map (λ m. write m) moves

-- ---- those that are made: up to the first that opens the question, and so many at most

abbrev pub made : Bool → State → ℕ → ℕ → List Move → List Try
made again s id most moves = up_to (opens again s id) (take most (tries s moves))
