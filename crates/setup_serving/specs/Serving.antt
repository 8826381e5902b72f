-- What a run of the program leaves, by how it ended (own rule).
use Rattle.std.specs.Prelude.{◌≡◌, ◌+◌, ◌-◌, ◌≤◌, ◌⊎◌, ℕ, Bool, true, false, List, [], length, take, drop, codes, Option, Some, None}
use Rattle.std.specs.Io.Buffered.{writer_buffer, writer_inner}
use Rattle.std.specs.Io.KnownBytes.{Appends, append_known}
use Rattle.std.specs.declared.io.buffered.BufWriter.{BufWriter}
use Rattle.hii_bytes.specs.declared.watched.Watched.{Watched}
use Rattle.hii_bytes.specs.Watching.{Pen, pen_of, inner_of, BreaksWithin}
use Rattle.browser_rules.specs.Faults.{Fault, IsLeast, open_faults}
use Rattle.browser_rules.specs.Forest.{nodes_of}
use Rattle.browser_rules.specs.Packages.{forms_bytes}
use Rattle.browser_rules.specs.Script.{SCRIPT_LIMIT, cut_lines, lines_run}
use Rattle.browser_rules.specs.Stores.{image_of, shape_of}
use Rattle.browser_rules.specs.Words.{OutOfMemory, refused_text, refused_at_text}
use Rattle.browser_core.specs.Opening.{Opens}
use Rattle.browser_core.specs.Shown.{Shown}
use Rattle.browser_core.specs.Run.{text_of, outcome_of, lines_due, Finishes, BreaksOff, Overflows}
use Rattle.session_steps.specs.declared.reply.End.{End}
use Rattle.session_steps.specs.declared.reply.End.TheVariants as end
use Rattle.setup_files.specs.declared.endings.Status.{Status}
use Rattle.setup_files.specs.declared.endings.Status.TheVariants as status
use Rattle.setup_files.specs.declared.given.Given.{Given}
use Rattle.setup_serving.specs.declared.serving.Ended.{Ended}
use Rattle.setup_serving.specs.declared.serving.Ended.TheVariants.{Done, Refused, ReadScript, WriteAnswers, WriteOut, NoMemory}

-- what a session over what is given shows at first
abbrev pub Starts : Given → Shown → Type 0
Starts given start =
    Opens given.list.now given.forms given.stores.now given.lang.now start.state
    × (start.renewed ≡ 0)

-- the least fault of what is given
abbrev pub IsRefusedBy : Given → Fault → Type 0
IsRefusedBy given fault = IsLeast (open_faults given.list.now given.forms given.stores.now) fault

-- the image of the stores that a session over what is given submitted last
abbrev pub image_submitted : Given → Shown → List ℕ
image_submitted given now =
    image_of (shape_of (nodes_of (forms_bytes given.list.now given.forms))).guid now.state.committed

-- A text is written whole, and its writer has not failed.
abbrev pub IsWritten : Pen → Pen → List ℕ → Type 0
IsWritten old new text = Appends old.known new.known text × (new.broken ≡ false)

-- The first bytes of a text are written, maybe all of them, and its writer has failed, as it wrote or as it passed them on.
pub record FailsWithin (old new : Pen) (text : List ℕ) : Type 0 where
  pub part : ℕ
  pub within : part ≤ length text
  pub appended : Appends old.known new.known (take part text)
  pub broken : new.broken ≡ true

-- ---- endings

-- the status with which the program ends
abbrev pub exit_status : Ended → Status
exit_status Done = status.Done
exit_status Refused = status.Refused
exit_status ReadScript = status.Fault
exit_status WriteAnswers = status.Fault
exit_status WriteOut = status.Fault
exit_status NoMemory = status.NoMemory

-- which read or write failed
abbrev pub fault_of : Ended → Option (List ℕ)
fault_of ReadScript = Some (codes "read script")
fault_of WriteAnswers = Some (codes "write answers")
fault_of WriteOut = Some (codes "write out")
fault_of _ = None

-- Which of the script, the answers and the image have failed: the one that is named. Where the answers fail at last, the script
-- may have failed before.
abbrev pub IsNamed : Ended → Bool → Bool → Bool → Type 0
IsNamed ReadScript script answers out = (script ≡ true) × (answers ≡ false) × (out ≡ false)
IsNamed WriteAnswers script answers out = (answers ≡ true) × (out ≡ false)
IsNamed WriteOut script answers out = (script ≡ false) × (answers ≡ false) × (out ≡ true)
IsNamed Done script answers out = (script ≡ false) × (answers ≡ false) × (out ≡ false)
IsNamed Refused script answers out = (script ≡ false) × (answers ≡ false) × (out ≡ false)
IsNamed NoMemory script answers out = (script ≡ false) × (answers ≡ false) × (out ≡ false)

-- ---- the reader and the writers

-- what a run meets and leaves: what is left of the script, where its bytes are known; the writer of the answers, and what the
-- buffer in front of it holds back; the writer of the image
pub record Ends : Type 0 where
  pub script : Option (List ℕ)
  pub answers : Pen
  pub held : List ℕ
  pub out : Pen

-- the writer of the answers with what is held back
abbrev pub with_held : Ends → Pen
with_held ends = record ends.answers { known = append_known ends.answers.known ends.held }

abbrev pub ends_of : {R A O Z : Type 0} → (R → Option (List ℕ)) → (A → Option (List ℕ))
    → (O → Option (List ℕ)) → Watched R → Watched (BufWriter A Z) → Watched O → Ends
ends_of remaining answered written script answers out = record {
  script = remaining (inner_of script);
  answers = pen_of (λ buffered. answered (writer_inner buffered)) answers;
  held = writer_buffer (inner_of answers);
  out = pen_of written out;
}

-- a writer that has not failed, by what it holds
abbrev pub fresh : Option (List ℕ) → Pen
fresh known = record { known = known; broken = false; count = 0 }

-- what a run begins with
abbrev pub ends_before : Option (List ℕ) → Option (List ℕ) → Option (List ℕ) → Ends
ends_before script answers out =
    record { script = script; answers = fresh answers; held = []; out = fresh out }

-- ---- what is told without a session

-- What is given is refused, and its least fault is told. Nothing is read.
pub record IsRefused (given : Given) (before after : Ends) : Type 0 where
  pub fault : Fault
  pub least : IsRefusedBy given fault
  pub unread : after.script ≡ before.script
  pub text : IsWritten before.answers after.answers (refused_at_text fault.cause fault.place)

-- An allocation failed, which is told. Nothing is read.
pub record LacksMemory (before after : Ends) : Type 0 where
  pub unread : after.script ≡ before.script
  pub text : IsWritten before.answers after.answers (refused_text OutOfMemory)

-- What is given is refused or an allocation fails, and the answers fail at the line that tells it, or as that is passed on. Nothing is
-- read.
pub record FailsAtOnce (given : Given) (before after : Ends) : Type 0 where
  pub text : List ℕ
  pub line : ((fault : Fault) × IsRefusedBy given fault × (text ≡ refused_at_text fault.cause fault.place))
      ⊎ (text ≡ refused_text OutOfMemory)
  pub unread : after.script ≡ before.script
  pub breaks : BreaksWithin before.answers (with_held after) text

-- ---- a script of known bytes

-- So many bytes of a script were read, and the others are left.
pub record IsRead (script : List ℕ) (count : ℕ) (left : Option (List ℕ)) : Type 0 where
  pub within : count ≤ length script
  pub left_is : left ≡ Some (drop count script)

-- what a run leaves of a script that it runs to an end: nothing, or what stands behind the byte past the limit
abbrev pub left_of : End → List ℕ → List ℕ
left_of end.Done script = []
left_of end.TooLong script = drop (SCRIPT_LIMIT + 1) script

-- A session over what is given runs this script to an end, and its answers are written.
pub record RunsAll (given : Given) (script : List ℕ) (end : End) (before after : Ends) : Type 0 where
  pub start : Shown
  pub starts : Starts given start
  pub ends : end ≡ (outcome_of start script).end
  pub left : after.script ≡ Some (left_of end script)
  pub text : IsWritten before.answers after.answers (outcome_of start script).text

-- A session over what is given runs the lines whose LF was read before the reader failed, and its answers are written.
pub record StopsReading (given : Given) (script : List ℕ) (before after : Ends) : Type 0 where
  pub start : Shown
  pub starts : Starts given start
  pub count : ℕ
  pub read : IsRead script count after.script
  pub few : count ≤ SCRIPT_LIMIT
  pub text : IsWritten before.answers after.answers
      (text_of start (cut_lines (take count script)).0)

-- A session over what is given runs the script until the answers fail, with the front of the text of the whole script. Each line
-- whose LF stands before the last PIECE bytes that were read was carried out, and all of their answers but the last are in it.
pub record StopsAnswering (given : Given) (script : List ℕ) (before after : Ends) : Type 0 where
  pub start : Shown
  pub starts : Starts given start
  pub count : ℕ
  pub read : IsRead script count after.script
  pub few : count ≤ SCRIPT_LIMIT + 1
  pub text : BreaksWithin before.answers (with_held after) (outcome_of start script).text
  pub soon : length (text_of start (take (lines_due (take count script) - 1) (lines_run script)))
      ≤ text.part

-- What a run over a script leaves. The image is that of the stores that were last submitted, and is begun only after a whole script.
abbrev pub ScriptLeaves : Given → List ℕ → Ends → Ended → Ends → Type 0
ScriptLeaves given script before Done after =
    (run : RunsAll given script end.Done before after)
    × IsWritten before.out after.out (image_submitted given (outcome_of run.start script).shown)
ScriptLeaves given script before Refused after =
    (after.out ≡ before.out) × (IsRefused given before after
    ⊎ RunsAll given script end.TooLong before after)
ScriptLeaves given script before ReadScript after =
    (after.out ≡ before.out) × StopsReading given script before after
ScriptLeaves given script before WriteAnswers after =
    (after.out ≡ before.out) × (FailsAtOnce given before after
    ⊎ StopsAnswering given script before after)
ScriptLeaves given script before WriteOut after =
    (run : RunsAll given script end.Done before after)
    × FailsWithin before.out after.out
    (image_submitted given (outcome_of run.start script).shown)
ScriptLeaves given script before NoMemory after = (after.out ≡ before.out) × LacksMemory before after

-- ---- any reader and writers

-- A session over what is given runs the bytes that were read to an end, and its answers are written.
pub record Finished (given : Given) (before : Ends) (end : End) (after : Ends) : Type 0 where
  pub start : Shown
  pub starts : Starts given start
  pub now : Shown
  pub finishes : Finishes start before.answers before.script end now after.answers after.script

abbrev pub RunLeaves : Given → Ends → Ended → Ends → Type 0
RunLeaves given before Done after =
    (run : Finished given before end.Done after)
    × IsWritten before.out after.out (image_submitted given run.now)
RunLeaves given before Refused after =
    (after.out ≡ before.out) × (IsRefused given before after
    ⊎ Finished given before end.TooLong after)
RunLeaves given before ReadScript after =
    (after.out ≡ before.out) × (start now : Shown) × Starts given start
    × BreaksOff start before.answers before.script now after.answers after.script
RunLeaves given before WriteAnswers after =
    (after.out ≡ before.out)
    × (FailsAtOnce given before after
    ⊎ ((start now : Shown) × Starts given start
    × Overflows start before.answers before.script now (with_held after) after.script))
RunLeaves given before WriteOut after =
    (run : Finished given before end.Done after)
    × FailsWithin before.out after.out (image_submitted given run.now)
RunLeaves given before NoMemory after = (after.out ≡ before.out) × LacksMemory before after
