-- Lines that stay one line, whatever stands in them.
use Rattle.std.specs.Prelude.{◌≡◌, ℕ, ◌==◌, ◌||◌, nat_lt, Bool, false, List, ◌++◌, codes}
use Rattle.std.specs.List.{AllByRecursion, concat, list_any}
use Rattle.std.specs.Str.{IsUtf8, chars}
use Rattle.audit_text.specs.Texts.{is_unsafe}

-- The bytes spell characters in UTF-8, of which none ends a line, begins an escape, turns the direction of what follows or does not show.
pub record IsSafe (text : List ℕ) : Type 0 where
  pub utf8 : IsUtf8 text
  pub none : list_any is_unsafe (chars text) ≡ false

-- whether a byte is a control of ASCII, as LF and ESC are
abbrev pub is_control : ℕ → Bool
is_control byte = nat_lt byte 0x20 || byte == 0x7F

-- A line is safe but for an LF, its last byte.
pub record IsLine (line : List ℕ) : Type 0 where
  pub words : List ℕ
  pub whole : line ≡ words ++ codes "\n"
  pub safe : IsSafe words
  pub no_control : list_any is_control words ≡ false

-- Lines, one behind the other.
pub record AreLines (text : List ℕ) : Type 0 where
  pub lines : List (List ℕ)
  pub each : AllByRecursion IsLine lines
  pub whole : text ≡ concat lines

-- Those of which this holds are told in lines.
abbrev pub TellsLines : {X : Type 0} → (X → Type 0) → (X → List ℕ) → Type 0
TellsLines {X} Are told = (x : X) → Are x → AreLines (told x)
