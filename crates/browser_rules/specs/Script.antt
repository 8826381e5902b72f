-- A script: its lines, and the command that each means (own rule).
use Rattle.std.specs.Option.{ok_or}
use Rattle.std.specs.Prelude.{neg_ℤ, ℕ, ℤ, ◌-◌, ◌^◌, ◌==◌, ◌&&◌, ◌||◌, nat_lt, not, Bool, if◌then◌else◌, pos, Option}
use Rattle.std.specs.Prelude.{Some, None, option_map, option_and_then, unwrap_or, Result, Err, List, [], ◌∷◌, ◌++◌}
use Rattle.std.specs.Prelude.{length, take, drop, slice_index, codes, bytes_eq}
use Rattle.std.specs.Char.{is_ascii_alphanumeric}
use Rattle.std.specs.List.{list_all, slice_split, find}
use Prim.Native.String.{String}
use Rattle.browser_rules.specs.Words.{Cause, BadCommand, LineTooLong, number_below}

-- ---- lines: each ends with LF, which only the last may lack, if it is not empty

abbrev pub in_front : ℕ → List (List ℕ) × List ℕ → List (List ℕ) × List ℕ
in_front byte ([], rest) = ([], byte ∷ rest)
in_front byte (line ∷ lines, rest) = ((byte ∷ line) ∷ lines, rest)

-- the lines whose LF stands in the bytes, without it, and what stands behind the last LF
abbrev pub cut_lines : List ℕ → List (List ℕ) × List ℕ
cut_lines [] = ([], [])
cut_lines (byte ∷ bytes) =
    if byte == 10 then ([] ∷ (cut_lines bytes).0, (cut_lines bytes).1) else in_front byte (cut_lines bytes)

abbrev pub SCRIPT_LIMIT : ℕ
SCRIPT_LIMIT = 1_048_576

abbrev pub is_too_long : List ℕ → Bool
is_too_long script = nat_lt SCRIPT_LIMIT (length script)

-- the lines of a script that are run: all, or of one that is too long those whose LF is among the first bytes
abbrev pub lines_run : List ℕ → List (List ℕ)
lines_run script =
    if is_too_long script then (cut_lines (take SCRIPT_LIMIT script)).0
    else (cut_lines script).0 ++ last_line (cut_lines script).1
  where
    last_line : List ℕ → List (List ℕ)
    last_line [] = []
    last_line rest = rest ∷ []

-- ---- commands

pub data Command : Type 0 where
  Page Back Submit Discard : Command
  Why Go Press Defaults : (number : ℕ) → Command
  Lang Extract Route : (word : List ℕ) → Command
  Set : (id : ℕ) (n : ℤ) → Command
  Order : (id : ℕ) (ns : List ℕ) → Command
  Text : (id : ℕ) (text : List ℕ) → Command

-- what stands behind a command's word: nothing; a number of at most so many digits, below a limit; a word that a test
-- holds of; the id of a question and a value; the id and a list, or the id alone; the id and a text, or the id alone
pub data Arguments : Type 0 where
  alone : Command → Arguments
  with_number : (most limit : ℕ) → (ℕ → Command) → Arguments
  with_word : (List ℕ → Bool) → (List ℕ → Command) → Arguments
  with_value : (ℕ → ℤ → Command) → Arguments
  with_list with_text : (ℕ → List ℕ → Command) → Arguments

-- at most 63 letters, digits and hyphens; any bytes but a space
abbrev pub is_language : List ℕ → Bool
is_language word = nat_lt (length word) 64 && list_all (λ byte. is_ascii_alphanumeric byte || byte == 45) word

abbrev pub is_word : List ℕ → Bool
is_word word = list_all (λ byte. not (byte == 32)) word

abbrev pub commands : List (String × Arguments)
commands =
    ("page", alone Page)
    ∷ ("set", with_value Set)
    ∷ ("order", with_list Order)
    ∷ ("text", with_text Text)
    ∷ ("go", with_number 5 65536 Go)
    ∷ ("back", alone Back)
    ∷ ("press", with_number 9 (10 ^ 9) Press)
    ∷ ("defaults", with_number 5 65536 Defaults)
    ∷ ("why", with_number 5 65536 Why)
    ∷ ("lang", with_word is_language Lang)
    ∷ ("submit", alone Submit)
    ∷ ("discard", alone Discard)
    ∷ ("extract", with_word is_word Extract)
    ∷ ("route", with_word is_word Route)
    ∷ []

-- the bytes before the first space, and what is behind it, where there is one
abbrev pub cut_word : List ℕ → List ℕ × Option (List ℕ)
cut_word [] = ([], None)
cut_word (byte ∷ text) =
    if byte == 32 then ([], Some text) else (byte ∷ (cut_word text).0, (cut_word text).1)

-- a value, of a magnitude below 2^64: `-` and 1 to 20 digits, `0x` and 1 to 16 hex digits, or 1 to 20 digits
abbrev pub begins_with : String → List ℕ → Bool
begins_with front text = bytes_eq (take (length (codes front)) text) (codes front)

abbrev pub value_in : List ℕ → Option ℤ
value_in text =
    if begins_with "-" text then option_map (λ n. neg_ℤ (pos n)) (number_below (2 ^ 64) 10 20 (drop 1 text))
    else if begins_with "0x" text then option_map pos (number_below (2 ^ 64) 16 16 (drop 2 text))
    else option_map pos (number_below (2 ^ 64) 10 20 text)

-- a list: numbers below 2^64 with a comma between
abbrev pub numbers_in : List (List ℕ) → Option (List ℕ)
numbers_in [] = Some []
numbers_in (part ∷ parts) =
    option_and_then (λ n. option_map (λ ns. n ∷ ns) (numbers_in parts)) (number_below (2 ^ 64) 10 20 part)

abbrev pub list_in : Option (List ℕ) → Option (List ℕ)
list_in None = Some []
list_in (Some list) = numbers_in (slice_split (λ byte. byte == 44) list)

abbrev pub on_question : {X : Type 0} → (ℕ → X → Command) → (Option (List ℕ) → Option X) → List ℕ → Option Command
on_question command read text =
    option_and_then (λ id. option_map (command id) (read (cut_word text).1)) (number_below 65536 10 5 (cut_word text).0)

abbrev pub command_in : Arguments → Option (List ℕ) → Option Command
command_in (alone command) None = Some command
command_in (alone command) (Some text) = None
command_in arguments None = None
command_in (with_number most limit command) (Some text) = option_map command (number_below limit 10 most text)
command_in (with_word test command) (Some text) =
    if nat_lt 0 (length text) && test text then Some (command text) else None
command_in (with_value command) (Some text) = on_question command (option_and_then value_in) text
command_in (with_list command) (Some text) = on_question command list_in text
command_in (with_text command) (Some text) = on_question command (λ rest. Some (unwrap_or rest [])) text

-- a line without the CR at its end, where there is one
abbrev pub without_return : List ℕ → List ℕ
without_return line =
    if slice_index line (length line - 1) == 13 then take (length line - 1) line else line

-- what a line means; it has at most 4,096 bytes, its CR counted
abbrev pub command_of : List ℕ → Result Command Cause
command_of line =
    let text = without_return line in
    let found = find (λ c. bytes_eq (cut_word text).0 (codes c.0)) commands in
    if nat_lt 4096 (length line) then Err LineTooLong
    else ok_or (option_and_then (λ c. command_in c.1 (cut_word text).1) found) BadCommand
