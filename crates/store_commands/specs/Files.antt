-- Files that are read whole by their paths (own rule).
use Rattle.std.specs.Prelude.{◌≡◌, ℕ, Bool, true, false, ⊤, List, drop, string_bytes}
use Rattle.store_audit.specs.declared.fillings.Source.{Source}
use Rattle.store_audit.specs.declared.fillings.Source.TheVariants.{File}

-- what is known of a path
pub data Known : Type 0 where
  Unknown : Known
  Absent : Known
  Holds : (bytes : List ℕ) → Known

-- These bytes may be read there.
abbrev pub IsRead : Known → List ℕ → Type 0
IsRead Unknown bytes = ⊤
IsRead Absent bytes = ⊥
IsRead (Holds whole) bytes = bytes ≡ whole

-- There may be a file, or there may be none.
abbrev pub IsThere : Known → Bool → Type 0
IsThere Unknown is_there = ⊤
IsThere Absent is_there = is_there ≡ false
IsThere (Holds whole) is_there = is_there ≡ true

-- how many bytes a variable's attributes take in its file, before its own
abbrev pub attributes : Bool → ℕ
attributes true = 4
attributes false = 0

-- The source is the file of a path, without the attributes of a variable.
abbrev pub IsFile : (List ℕ → Known) → List ℕ → Bool → Source → Type 0
IsFile known path of_variable (File name bytes is_variable) =
    (string_bytes name ≡ path) × (is_variable ≡ of_variable)
    × (whole : List ℕ) × IsRead (known path) whole × (bytes.items ≡ drop (attributes of_variable) whole)
IsFile known path of_variable _ = ⊥
