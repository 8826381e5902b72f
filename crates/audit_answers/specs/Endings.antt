-- How a run ends, and what its writers hold then (own rule).
use Rattle.std.specs.Prelude.{◌≡◌, ◌⊎◌, ℕ, ◌≤◌, true, false, List, [], Option, Some, None, codes, length, take}
use Rattle.std.specs.Io.Buffered.{writer_buffer, writer_contents, writer_inner}
use Rattle.std.specs.Io.KnownBytes.{Appends}
use Rattle.std.specs.declared.io.BufWriter.{BufWriter}
use Rattle.hii_bytes.specs.declared.cause.Cause.{Cause}
use Rattle.hii_bytes.specs.declared.cause.Fault.{Fault}
use Rattle.hii_bytes.specs.declared.watched.Watched.{Watched}
use Rattle.hii_bytes.specs.Faults.{IsLeast}
use Rattle.hii_bytes.specs.Watching.{has_failed, has_passed_on, inner_of}
use Rattle.session_steps.specs.Texts.{refused_at_text, refused_text}
use Rattle.audit_json.specs.Objects.{refused_at_object, refused_object}
use Rattle.audit_json.specs.Telling.{told_as}
use Rattle.audit_json.specs.declared.telling.Telling.{Telling}
use Rattle.setup_files.specs.declared.endings.Status.{Status}
use Rattle.setup_files.specs.declared.endings.Status.TheVariants as status
use Rattle.audit_answers.specs.declared.ended.Ended.{Ended}
use Rattle.audit_answers.specs.declared.ended.Ended.TheVariants.{Done, Refused, WriteAnswers, WriteOut, NoMemory}

-- the status with which the program ends
abbrev pub status_of : Ended → Status
status_of Done = status.Done
status_of Refused = status.Refused
status_of WriteAnswers = status.Fault
status_of WriteOut = status.Fault
status_of NoMemory = status.NoMemory

-- which write failed
abbrev pub fault_of : Ended → Option (List ℕ)
fault_of WriteAnswers = Some (codes "write answers")
fault_of WriteOut = Some (codes "write out")
fault_of _ = None

-- by which fault a run is refused, and by which cause, where the cause has no place
abbrev pub refused_at_told : Telling → Fault → List ℕ
refused_at_told telling fault = told_as telling (refused_at_text fault) (refused_at_object fault)

abbrev pub refused_told : Telling → Cause → List ℕ
refused_told telling cause = told_as telling (refused_text cause) (refused_object cause)

-- The text tells the least of these faults.
abbrev pub IsRefusal : Telling → (Cause → ℕ → Type 0) → List ℕ → Type 0
IsRefusal telling IsFault text =
    (fault : Fault) × IsLeast IsFault fault × (text ≡ refused_at_told telling fault)

-- The writer of the answers got a text whole, behind what it had and what was held back; nothing is held back any more, and the
-- answers have not failed.
abbrev pub IsPassedOn : {A Z : Type 0} → (A → Option (List ℕ)) → Watched (BufWriter A Z) → Watched (BufWriter A Z) → List ℕ → Type 0
IsPassedOn contents old new text =
    Appends (writer_contents contents (inner_of old)) (contents (writer_inner (inner_of new))) text
    × (writer_buffer (inner_of new) ≡ []) × (has_failed new ≡ false)

-- These bytes grew by a front of a text.
abbrev pub StopsIn : Option (List ℕ) → Option (List ℕ) → List ℕ → Type 0
StopsIn old new text = (part : ℕ) × (part ≤ length text) × Appends old new (take part text)

-- What a run says as it ends so is passed on; or the answers failed, within what it would have said as it ended.
abbrev pub Tells : {A Z : Type 0} → (Ended → List ℕ → Type 0) → (A → Option (List ℕ)) → Watched (BufWriter A Z) → Ended → Watched (BufWriter A Z) → Type 0
Tells says contents old ended new =
    ((text : List ℕ) × says ended text × IsPassedOn contents old new text)
    ⊎ ((ended ≡ WriteAnswers) × (has_failed new ≡ true)
    × (meant : Ended) × (text : List ℕ) × says meant text
    × StopsIn (writer_contents contents (inner_of old)) (writer_contents contents (inner_of new)) text)

-- Where the run is done the file has these bytes whole, and then a flush was no fault; where the file failed it has a front of them;
-- else it was not touched.
abbrev pub IsLeft : {O : Type 0} → (O → Option (List ℕ)) → List ℕ → Watched O → Ended → Watched O → Type 0
IsLeft contents bytes old Done new =
    Appends (contents (inner_of old)) (contents (inner_of new)) bytes
    × (has_failed new ≡ false) × (has_passed_on new ≡ true)
IsLeft contents bytes old WriteOut new =
    StopsIn (contents (inner_of old)) (contents (inner_of new)) bytes × (has_failed new ≡ true)
IsLeft contents bytes old _ new = new ≡ old

-- What a run says is told, and the bytes that it says the file has are written behind it.
abbrev pub TellsAndWrites : {A Z O : Type 0} → (List ℕ → Ended → List ℕ → Type 0) → (A → Option (List ℕ)) → (O → Option (List ℕ))
    → Watched (BufWriter A Z) → Watched O → Ended → Watched (BufWriter A Z) → Watched O → Type 0
TellsAndWrites says answers file old old_file ended new new_file =
    (bytes : List ℕ) × Tells (says bytes) answers old ended new × IsLeft file bytes old_file ended new_file
