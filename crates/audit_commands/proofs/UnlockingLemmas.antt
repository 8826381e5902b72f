-- What is said of what opens questions, in a session over what is given.
use Rattle.std.proofs.Common.{◌≡◌, ℕ, Bool, Option, List, ap, inr, sym, ◌∙◌}
use Rattle.hii_bytes.specs.Watching.{Pen, Writes}
use Rattle.hii_varstore.specs.Stores.{StoreMap}
use Rattle.audit_json.specs.declared.telling.Telling.{Telling}
use Rattle.question_audit.specs.code.Beginnings.{Begins}
use Rattle.session_steps.specs.State.{State}
use Rattle.unlock_audit.specs.Told.{TellsUnlock, asked_told, is_there_asked}
use Rattle.unlock_audit.specs.Tries.{discarded}
use Rattle.audit_commands.specs.Auditing.{Asked, Starts}
use Rattle.audit_commands.specs.Unlocking.{BeginsUnlocks, Unlocks}

-- a session that has just begun goes back to where it is
begun_anew : (asked : Asked) (s : State) → Starts asked s → discarded s ≡ s
begun_anew asked s opens = ap (λ (m : StoreMap). record s { working = m }) opens.submitted

-- what is told behind the discarding is what is said of the bytes
pub unlocks_of : (telling : Telling) (is_there : Bool) (asked : Asked) (id : Option ℕ) (s : State) (old new : Pen) → Starts asked s → TellsUnlock telling is_there (discarded s) id old new
    → (text : List ℕ) × Unlocks telling is_there asked id text × Writes old new text
unlocks_of telling is_there asked id s old new opens tells =
    let anew = begun_anew asked s opens in (
      asked_told telling (discarded s) id,
      record {
        start = s;
        opens = opens;
        there = tells.there ∙ ap (λ (t : State). is_there_asked t id) anew;
        told = ap (λ (t : State). asked_told telling t id) anew;
      },
      tells.told,
    )

-- and so is its beginning
pub begins_of : (telling : Telling) (asked : Asked) (id : Option ℕ) (s : State) (old new : Pen) → Starts asked s → Begins old new (asked_told telling (discarded s) id)
    → (text : List ℕ) × BeginsUnlocks telling asked id text × Writes old new text
begins_of telling asked id s old new opens begun = (
  begun.front,
  inr (s, opens, begun.rest, sym (ap (λ (t : State). asked_told telling t id) (begun_anew asked s opens)) ∙ begun.parts),
  begun.written,
)
