-- How a run comes to its end.
use Rattle.std.specs.Prelude.{◌≡◌, ◌≢◌, ◌⊎◌, ℕ, true, false, List, [], Option}
use Rattle.std.specs.Io.Buffered.{writer_buffer, writer_contents}
use Rattle.std.specs.declared.io.BufWriter.{BufWriter}
use Rattle.hii_bytes.specs.declared.cause.Cause.TheVariants.{OutOfMemory}
use Rattle.hii_bytes.specs.declared.cause.Fault.{Fault}
use Rattle.hii_bytes.specs.declared.watched.Watched.{Watched}
use Rattle.hii_bytes.specs.Watching.{Flushes, Pen, Writes, has_failed, has_passed_on, inner_of, pen_of}
use Rattle.audit_json.specs.declared.telling.Telling.{Telling}
use Rattle.audit_answers.specs.Endings.{refused_at_told, refused_told}
use Rattle.audit_answers.specs.declared.ended.Ended.{Ended}
use Rattle.audit_answers.specs.declared.ended.Ended.TheVariants.{Done, Refused, WriteAnswers, WriteOut, NoMemory}

-- What was written so far is passed on, and the run ends so; or the answers have failed.
abbrev pub PassesFrom : {A Z : Type 0} → (A → Option (List ℕ)) → Ended → Pen → Ended → Watched (BufWriter A Z) → Type 0
PassesFrom contents meant mid ended new =
    Flushes mid (pen_of (writer_contents contents) new)
    × (((ended ≡ meant) × (has_failed new ≡ false) × (writer_buffer (inner_of new) ≡ []))
    ⊎ ((ended ≡ WriteAnswers) × (has_failed new ≡ true)))

abbrev pub Passes : {A Z : Type 0} → (A → Option (List ℕ)) → Ended → Watched (BufWriter A Z) → Ended → Watched (BufWriter A Z) → Type 0
Passes contents meant old ended new = PassesFrom contents meant (pen_of (writer_contents contents) old) ended new

-- what is said of a fault, and how the run ends by it
abbrev pub SaysFault : Telling → Fault → Ended → List ℕ → Type 0
SaysFault telling fault Refused text =
    (fault.cause ≢ OutOfMemory) × (text ≡ refused_at_told telling fault)
SaysFault telling fault NoMemory text =
    (fault.cause ≡ OutOfMemory) × (text ≡ refused_told telling OutOfMemory)
SaysFault telling fault _ text = ⊥

-- That was written, and then it was passed on.
pub record RefusesBy {A Z : Type 0} (telling : Telling) (fault : Fault) (contents : A → Option (List ℕ)) (old : Watched (BufWriter A Z)) (ended : Ended) (new : Watched (BufWriter A Z)) : Type 0 where
  pub meant : Ended
  pub text : List ℕ
  pub said : SaysFault telling fault meant text
  pub mid : Pen
  pub written : Writes (pen_of (writer_contents contents) old) mid text
  pub passed : PassesFrom contents meant mid ended new

-- The file is flushed, or it has failed.
abbrev pub Commits : {O : Type 0} → (O → Option (List ℕ)) → Watched O → Ended → Watched O → Type 0
Commits contents old ended new =
    Flushes (pen_of contents old) (pen_of contents new)
    × (((ended ≡ Done) × (has_failed new ≡ false) × (has_passed_on new ≡ true))
    ⊎ ((ended ≡ WriteOut) × (has_failed new ≡ true)))

-- That was written, and then it was passed on: the run is refused.
abbrev pub RefusesBehind : {A Z : Type 0} → List ℕ → (A → Option (List ℕ)) → Watched (BufWriter A Z) → Ended → Watched (BufWriter A Z) → Type 0
RefusesBehind text contents old ended new =
    (mid : Pen) × Writes (pen_of (writer_contents contents) old) mid text
    × PassesFrom contents Refused mid ended new
