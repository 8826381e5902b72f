-- The lines of a script, one after the other, up to the first that is denied or refused (own rule).
use Rattle.std.specs.Prelude.{ℕ, Bool, true, false, if◌then◌else◌, Option, Some, None, Result, Ok, Err, List, [], ◌∷◌, ◌++◌, codes, map}
use Rattle.std.specs.List.{flat_map}
use Rattle.browser_rules.specs.Script as script
use Rattle.browser_rules.specs.Script.{Command, command_of, without_return}
use Rattle.browser_rules.specs.Words as words
use Rattle.hii_bytes.specs.Texts.{place_text}
use Rattle.ifr_opcodes.specs.Forest.{Node}
use Rattle.hii_questions.specs.Fields.{question_with}
use Rattle.guard_policy.specs.Policy.{warned}
use Rattle.guard_policy.specs.Warned.{warning_of}
use Rattle.guard_policy.specs.declared.warnings.Warning.{Warning}
use Rattle.audit_json.specs.declared.telling.Telling.{Telling}
use Rattle.session_steps.specs.State.{State, texts, world_of}
use Rattle.session_steps.specs.Step.{step_line}
use Rattle.session_steps.specs.declared.reply.Reply.{Reply}
use Rattle.session_steps.specs.declared.reply.Reply.TheVariants.{Accepted}
use Rattle.script_audit.specs.Script.{Line}
use Rattle.script_audit.specs.Told.{back, numbered_front, spelled}
use Rattle.script_audit.specs.Values.{Seen}

-- what is seen of a session
abbrev pub seen : State → Seen
seen s = record { texts = texts s; world = world_of s; stores = s.working }

-- ---- warnings: those that the session tells where a question took a value

abbrev pub warning_told : Telling → ℕ → Seen → Warning → List ℕ
warning_told telling n a warning =
    numbered_front telling n (codes "warned") (codes "warning") ++ codes "WARNING at " ++ place_text warning.place
    ++ codes " " ++ spelled telling (a.texts warning.message) ++ back telling

-- the warnings of a question
abbrev pub warned_of : Seen → Option Node → List Warning
warned_of a None = []
warned_of a (Some q) = map warning_of (warned a.world q)

abbrev pub warnings_of : Telling → ℕ → Seen → Option Node → List ℕ
warnings_of telling n a q = flat_map (warning_told telling n a) (warned_of a q)

-- the question to which a command gives a value
abbrev pub warnings_behind : Telling → ℕ → Seen → Command → List ℕ
warnings_behind telling n a (script.Set id value) = warnings_of telling n a (question_with a.world.nodes id)
warnings_behind telling n a (script.Order id numbers) = warnings_of telling n a (question_with a.world.nodes id)
warnings_behind telling n a (script.Text id text) = warnings_of telling n a (question_with a.world.nodes id)
warnings_behind telling n a _ = []

abbrev pub warnings_read : Telling → ℕ → Seen → Result Command words.Cause → List ℕ
warnings_read telling n a (Ok command) = warnings_behind telling n a command
warnings_read telling n a (Err cause) = []

-- where a command is answered with OK
abbrev pub warnings_if : Bool → List ℕ → List ℕ
warnings_if accepted warnings = if accepted then warnings else []

-- what is told of a line that was answered with OK, over what it has left; of an empty one nothing
abbrev pub warnings_text : Telling → ℕ → Seen → List ℕ → List ℕ → List ℕ
warnings_text telling n a line [] = []
warnings_text telling n a line (byte ∷ bytes) = warnings_read telling n a (command_of line)

abbrev pub line_warnings : Telling → Seen → Line → List ℕ
line_warnings telling a line = warnings_text telling line.number a line.bytes (without_return line.bytes)

-- ---- the walk

abbrev pub is_accepted : Reply → Bool
is_accepted Accepted = true
is_accepted _ = false

-- a line that was not answered with OK, and its answer
pub record Stop : Type 0 where
  pub line : Line
  pub reply : Reply

-- what is told on the way, the state that is left, and where it ends before the script does
pub record Walk : Type 0 where
  pub told : List ℕ
  pub state : State
  pub stop : Option Stop

abbrev pub behind_text : List ℕ → Walk → Walk
behind_text told later = record { told = told ++ later.told; state = later.state; stop = later.stop }

abbrev pub walk : Telling → State → List Line → Walk
walk telling s [] = record { told = []; state = s; stop = None }
walk telling s (line ∷ lines) =
    if is_accepted (step_line s line.bytes).reply
    then behind_text (line_warnings telling (seen (step_line s line.bytes).state) line)
    (walk telling (step_line s line.bytes).state lines)
    else record {
      told = [];
      state = (step_line s line.bytes).state;
      stop = Some record { line = line; reply = (step_line s line.bytes).reply };
    }
