-- What `opcodes` says of a list (own rule).
use Rattle.std.specs.Prelude.{◌≡◌, ◌⊎◌, ℕ, List, ◌++◌}
use Rattle.browser_rules.specs.Packages.{Package}
use Rattle.hii_bytes.specs.declared.cause.Cause.{Cause}
use Rattle.hii_bytes.specs.declared.cause.Cause.TheVariants.{OutOfMemory}
use Rattle.hii_bytes.specs.declared.cause.Fault.{Fault}
use Rattle.hii_bytes.specs.Faults.{HasNone, IsLeast, Then}
use Rattle.session_steps.specs.Opening.{HasSource, IsFormSetFault, IsSourceFault, IsTextFault, forms_bytes}
use Rattle.opcode_audit.specs.Lines.{opcodes_text, said_first}
use Rattle.audit_json.specs.declared.telling.Telling.{Telling}
use Rattle.audit_answers.specs.Endings.{IsRefusal, refused_at_told, refused_told}
use Rattle.audit_answers.specs.declared.ended.Ended.{Ended}
use Rattle.audit_answers.specs.declared.ended.Ended.TheVariants.{Done, Refused, NoMemory}

-- the faults by which a session refuses a list, whatever the image of its stores
abbrev pub IsListFault : List ℕ → ℕ → Cause → ℕ → Type 0
IsListFault list n =
    Then (IsSourceFault list n) (Then (IsTextFault list) (IsFormSetFault (forms_bytes list n)))

-- The text has a line for each opcode of the forms package of a number, in a list that begins at an offset of the file that was given.
pub record ListsOpcodes (telling : Telling) (list : List ℕ) (n start : ℕ) (text : List ℕ) : Type 0 where
  pub source : Package
  pub found : HasSource list n source
  pub lines : text ≡ opcodes_text telling (said_first list) start source

-- The lines, and behind them the least fault of the list.
abbrev pub ListsRefused : Telling → List ℕ → ℕ → ℕ → List ℕ → Type 0
ListsRefused telling list n start text =
    (begun : List ℕ) × ListsOpcodes telling list n start begun
    × (fault : Fault) × IsLeast (IsListFault list n) fault
    × (text ≡ begun ++ refused_at_told telling fault)

-- a line or an object for each opcode, and the fault of the list, if it has one; where no forms package is found, why
abbrev pub SaysOpcodes : Telling → List ℕ → ℕ → ℕ → Ended → List ℕ → Type 0
SaysOpcodes telling list n start Done text =
    ListsOpcodes telling list n start text × HasNone (IsListFault list n)
SaysOpcodes telling list n start Refused text =
    IsRefusal telling (IsSourceFault list n) text ⊎ ListsRefused telling list n start text
SaysOpcodes telling list n start NoMemory text = text ≡ refused_told telling OutOfMemory
SaysOpcodes telling list n start _ text = ⊥
