-- What is known of a forms package whose opcodes are told.
use Rattle.std.specs.Prelude.{◌≡◌, ◌≢◌, ℕ, List, Option, Some, None}
use Rattle.hii_bytes.specs.declared.cause.Cause.TheVariants.{OutOfMemory}
use Rattle.hii_bytes.specs.declared.cause.Fault.{Fault}
use Rattle.hii_bytes.specs.Faults.{HasNone, IsLeast}
use Rattle.hii_packages.specs.code.Package.{package_of}
use Rattle.session_steps.specs.Opening.{HasSource}
use Rattle.opcode_audit.specs.Lines.{said_first}
use Rattle.audit_commands.specs.Opcodes.{IsListFault}
use Rattle.audit_commands.specs.declared.judged.JudgedPackage.{JudgedPackage}

-- There is no fault, or this is the least one.
abbrev pub IsVerdict : List ℕ → ℕ → Option Fault → Type 0
IsVerdict list n None = HasNone (IsListFault list n)
IsVerdict list n (Some fault) = (fault.cause ≢ OutOfMemory) × IsLeast (IsListFault list n) fault

-- It is that of a number in a list, with the texts and the least fault of the list.
pub record IsJudged (list : List ℕ) (n : ℕ) (judged : JudgedPackage) : Type 0 where
  pub source : HasSource list n (package_of judged.source)
  pub strings : judged.strings ≡ said_first list
  pub verdict : IsVerdict list n judged.fault
