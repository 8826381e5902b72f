-- A list of a dump is taken by its number (own rule).
use Rattle.std.specs.Prelude.{◌≡◌, ℕ, Bool, true, false, Option, None, Some, List}
use Rattle.hii_bytes.specs.declared.watched.Watched.{Watched}
use Rattle.hii_bytes.specs.Watching.{Pen, Writes, Puts}
use Rattle.audit_text.specs.Passing.{PassesOn}
use Rattle.hii_dumps.specs.Dumps.{Entry, SpellsDump, nth_list}
use Rattle.dump_audit.specs.Findings.{Finding, IsFound}
use Rattle.audit_json.specs.declared.telling.Telling.{Telling}
use Rattle.dump_audit.specs.Lines.{list_told, no_list_told}

-- This is the list of a number, counted from 1, with its place in the dump; or there is none.
abbrev pub IsNth : List ℕ → ℕ → Option Entry → Type 0
IsNth dump number list =
    (lists : List (List ℕ)) × (rest : List ℕ) × SpellsDump dump lists rest
    × (nth_list lists number ≡ list)

-- What is told of the list of a number was passed on; where there is no such list, that was written.
abbrev pub TellsList : Telling → ℕ → Option Entry → Bool → Pen → Pen → Type 0
TellsList telling number None is_there old new =
    (is_there ≡ false) × Writes old new (no_list_told telling number)
TellsList telling number (Some list) is_there old new =
    (is_there ≡ true) × (finding : Finding) × IsFound list.bytes finding
    × PassesOn old new (list_told telling number record { entry = list; finding = finding })

-- The bytes of the list were put into a file; where there is no list, or the answers failed, the file is as it was.
abbrev pub TakesBytes : {F : Type 0} → Option Entry → Bool → (F → Option (List ℕ)) → Watched F → Watched F → Type 0
TakesBytes None failed contents old new = new ≡ old
TakesBytes (Some list) true contents old new = new ≡ old
TakesBytes (Some list) false contents old new = Puts contents old new list.bytes
