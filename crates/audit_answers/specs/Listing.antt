-- Which bytes are the list that options name, of those of the file of --list (own rule).
use Rattle.std.specs.Prelude.{◌≡◌, ◌⊎◌, ℕ, List, Option, Some, None}
use Rattle.hii_dumps.specs.Dumps.{Entry}
use Rattle.audit_json.specs.declared.telling.Telling.{Telling}
use Rattle.dump_audit.specs.Lines.{no_list_told}
use Rattle.dump_audit.specs.Taking.{IsNth}
use Rattle.question_audit.specs.declared.origin.Holder.TheVariants as holder
use Rattle.question_audit.specs.declared.origin.Origin.{Origin}
use Rattle.audit_answers.specs.declared.ended.Ended.{Ended}
use Rattle.audit_answers.specs.declared.ended.Ended.TheVariants.{Refused}

-- a list, and where it stands in the file
pub record Listed : Type 0 where
  pub bytes : List ℕ
  pub origin : Origin

abbrev pub whole_file : List ℕ → Listed
whole_file file = record { bytes = file; origin = record { holder = holder.List; place = 0 } }

abbrev pub in_dump : Entry → Listed
in_dump entry = record {
  bytes = entry.bytes;
  origin = record { holder = holder.Dump; place = entry.place };
}

-- Without a number the file is the list; with one it is a dump, and this is its list of the number.
abbrev pub IsListed : Option ℕ → List ℕ → Listed → Type 0
IsListed None file list = list ≡ whole_file file
IsListed (Some number) file list =
    (entry : Entry) × IsNth file number (Some entry) × (list ≡ in_dump entry)

-- The file is a dump that has no list of the number.
abbrev pub IsUnlisted : Option ℕ → List ℕ → ℕ → Type 0
IsUnlisted take file number = (take ≡ Some number) × IsNth file number None

-- This is said of the list; or there is none, and that is said.
abbrev pub SaysOfList : Telling → Option ℕ → List ℕ → (Listed → Ended → List ℕ → Type 0) → Ended → List ℕ → Type 0
SaysOfList telling take file says ended text =
    ((list : Listed) × IsListed take file list × says list ended text)
    ⊎ ((number : ℕ) × IsUnlisted take file number × (ended ≡ Refused)
    × (text ≡ no_list_told telling number))
