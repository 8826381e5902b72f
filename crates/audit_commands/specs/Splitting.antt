-- What `split` says of a dump (own rule).
use Rattle.std.specs.Prelude.{◌≡◌, ℕ, true, false, List, ◌++◌, Some, None}
use Rattle.hii_bytes.specs.declared.cause.Cause.TheVariants.{OutOfMemory}
use Rattle.hii_dumps.specs.Dumps.{Entry}
use Rattle.dump_audit.specs.Findings.{Finding, IsFound}
use Rattle.dump_audit.specs.Lines.{BeginsSplitText, IsSplitText, list_told, no_list_told}
use Rattle.audit_json.specs.declared.telling.Telling.{Telling}
use Rattle.audit_answers.specs.Endings.{refused_told}
use Rattle.dump_audit.specs.Taking.{IsNth}
use Rattle.audit_answers.specs.declared.ended.Ended.{Ended}
use Rattle.audit_answers.specs.declared.ended.Ended.TheVariants.{Done, Refused, WriteOut, NoMemory}

-- each list and the rest, or that there is no list; where an allocation fails, the first lists
abbrev pub SaysLists : Telling → List ℕ → Ended → List ℕ → Type 0
SaysLists telling dump Done text = IsSplitText telling true dump text
SaysLists telling dump Refused text = IsSplitText telling false dump text
SaysLists telling dump NoMemory text =
    (begun : List ℕ) × BeginsSplitText telling dump begun × (text ≡ begun ++ refused_told telling OutOfMemory)
SaysLists telling dump _ text = ⊥

-- The text tells the list of a number, and the bytes are its own.
pub record IsTaken (telling : Telling) (dump : List ℕ) (number : ℕ) (bytes text : List ℕ) : Type 0 where
  pub list : Entry
  pub nth : IsNth dump number (Some list)
  pub finding : Finding
  pub found : IsFound list.bytes finding
  pub told_is : text ≡ list_told telling number record { entry = list; finding = finding }
  pub taken : bytes ≡ list.bytes

-- the list whose bytes the file has, or that there is none
abbrev pub SaysTaken : Telling → List ℕ → ℕ → List ℕ → Ended → List ℕ → Type 0
SaysTaken telling dump number bytes Done text = IsTaken telling dump number bytes text
SaysTaken telling dump number bytes WriteOut text = IsTaken telling dump number bytes text
SaysTaken telling dump number bytes Refused text = IsNth dump number None × (text ≡ no_list_told telling number)
SaysTaken telling dump number bytes NoMemory text = text ≡ refused_told telling OutOfMemory
SaysTaken telling dump number bytes _ text = ⊥
