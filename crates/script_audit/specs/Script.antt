-- The lines of a script that is run as a whole (own rule).
use Rattle.std.specs.Prelude.{ℕ, ◌+◌, ◌==◌, ◌||◌, not, Bool, true, if◌then◌else◌, List, [], ◌∷◌, ◌++◌, bytes_eq, drop, filter, take}
use Rattle.browser_rules.specs.Script.{cut_lines}

-- UTF-16, by the mark with which it begins
abbrev pub is_wide : List ℕ → Bool
is_wide script = bytes_eq (take 2 script) (0xFF ∷ 0xFE ∷ []) || bytes_eq (take 2 script) (0xFE ∷ 0xFF ∷ [])

abbrev pub has_mark : List ℕ → Bool
has_mark script = bytes_eq (take 3 script) (0xEF ∷ 0xBB ∷ 0xBF ∷ [])

-- without the byte order mark in front, where there is one
abbrev pub without_mark : List ℕ → List ℕ
without_mark script = if has_mark script then drop 3 script else script

abbrev pub is_no_return : ℕ → Bool
is_no_return byte = not (byte == 13)

abbrev pub without_returns : List ℕ → List ℕ
without_returns script = filter is_no_return script

-- a line without its LF, and its number, from 1 on
pub record Line : Type 0 where
  pub number : ℕ
  pub bytes : List ℕ

abbrev pub numbered : ℕ → List (List ℕ) → List Line
numbered n [] = []
numbered n (line ∷ lines) = record { number = n; bytes = line } ∷ numbered (n + 1) lines

-- all lines, with what stands behind the last LF
abbrev pub all_lines : List ℕ → List (List ℕ)
all_lines bytes = (cut_lines bytes).0 ++ (cut_lines bytes).1 ∷ []

-- Empty lines and those that begin with a number sign are passed over.
abbrev pub is_passed_over : List ℕ → Bool
is_passed_over [] = true
is_passed_over (byte ∷ bytes) = byte == 35

abbrev pub is_run : Line → Bool
is_run line = not (is_passed_over line.bytes)

-- the lines of a text from one of this number on that are run
abbrev pub lines_from : ℕ → List ℕ → List Line
lines_from n text = filter is_run (numbered n (all_lines text))

-- the lines of a script that are run
abbrev pub commands_of : List ℕ → List Line
commands_of script = lines_from 1 (without_returns (without_mark script))
