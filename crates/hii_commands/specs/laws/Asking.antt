-- Which lines ask for a command (own rule).
use Rattle.std.specs.Prelude.{◌≡◌, ◌⊎◌, ℕ, ℤ, pos, neg_ℤ, ◌==◌, ◌||◌, ◌^◌, ◌≤◌, true, List, [], ◌∷◌, ◌++◌, length, codes, ◌<◌}
use Rattle.std.specs.Char.{is_ascii_alphanumeric}
use Rattle.std.specs.List.{list_all}
use Rattle.browser_rules.specs.Script.{Command, Page, Set, Order, Text, Why, Go, Back, Press, Defaults, Extract, Route, Lang, Submit, Discard, without_return}
use Rattle.hii_bytes.specs.Digits.{IsNumber}
use Rattle.hii_bytes.specs.NumberList.{IsNumberList}
use Rattle.hii_commands.specs.declared.limits.TheConstants.{LINE_LIMIT}
use Rattle.hii_commands.specs.declared.command.BadLine.{BadLine}
use Rattle.hii_commands.specs.declared.command.BadLine.TheVariants.{BadCommand, LineTooLong}
use Rattle.hii_commands.specs.laws.Lines.{Lacks}

-- a question's id: 1 to 5 decimal digits, at most 65535
abbrev pub IsQuestion : List ℕ → ℕ → Type 0
IsQuestion text q = IsNumber 10 5 65536 text q

-- the id of a default class: 1 to 5 decimal digits, at most 65535
abbrev pub IsClass : List ℕ → ℕ → Type 0
IsClass text class = IsNumber 10 5 65536 text class

-- a row of a page: 1 to 9 decimal digits
abbrev pub IsRow : List ℕ → ℕ → Type 0
IsRow text row = IsNumber 10 9 (10 ^ 9) text row

-- a value: 1 to 20 decimal digits, or a minus and as many, or `0x` and 1 to 16 hex digits; the magnitude is below 2^64
abbrev pub IsValue : List ℕ → ℤ → Type 0
IsValue text z = (digits : List ℕ) × (n : ℕ) ×
    (((text ≡ digits) × IsNumber 10 20 (2 ^ 64) digits n × (z ≡ pos n))
    ⊎ ((text ≡ codes "-" ++ digits) × IsNumber 10 20 (2 ^ 64) digits n × (z ≡ neg_ℤ (pos n)))
    ⊎ ((text ≡ codes "0x" ++ digits) × IsNumber 16 16 (2 ^ 64) digits n × (z ≡ pos n)))

-- a list behind its space, and nothing for the empty list
abbrev pub list_word : List ℕ → List ℕ
list_word [] = []
list_word (b ∷ list) = codes " " ++ b ∷ list

-- 1 to 63 letters, digits and hyphens
pub record IsLanguage (text : List ℕ) : Type 0 where
  pub some : 1 ≤ length text
  pub few : length text ≤ 63
  pub each : list_all (λ byte. is_ascii_alphanumeric byte || byte == 45) text ≡ true

-- one word: at least one byte, and no space
pub record IsOneWord (text : List ℕ) : Type 0 where
  pub some : 1 ≤ length text
  pub whole : Lacks 32 text

-- The text has the form of this command: its words, with one space between them. The new text of a
-- question is all that stands after one space, or empty.
abbrev pub Asks : List ℕ → Command → Type 0
Asks text Page = text ≡ codes "page"
Asks text (Set q z) =
    (question value : List ℕ) × (text ≡ codes "set " ++ (question ++ (codes " " ++ value)))
    × IsQuestion question q × IsValue value z
Asks text (Order q numbers) =
    (question list : List ℕ) × (text ≡ codes "order " ++ (question ++ list_word list))
    × IsQuestion question q × IsNumberList list numbers
Asks text (Text q rest) = (question : List ℕ) × IsQuestion question q
    × ((text ≡ codes "text " ++ (question ++ (codes " " ++ rest)))
    ⊎ ((text ≡ codes "text " ++ question) × (rest ≡ [])))
Asks text (Why q) =
    (question : List ℕ) × (text ≡ codes "why " ++ question) × IsQuestion question q
Asks text (Go q) =
    (question : List ℕ) × (text ≡ codes "go " ++ question) × IsQuestion question q
Asks text Back = text ≡ codes "back"
Asks text (Press row) =
    (digits : List ℕ) × (text ≡ codes "press " ++ digits) × IsRow digits row
Asks text (Defaults class) =
    (digits : List ℕ) × (text ≡ codes "defaults " ++ digits) × IsClass digits class
Asks text (Extract request) =
    (text ≡ codes "extract " ++ request) × IsOneWord request
Asks text (Route response) =
    (text ≡ codes "route " ++ response) × IsOneWord response
Asks text (Lang language) = (text ≡ codes "lang " ++ language) × IsLanguage language
Asks text Submit = text ≡ codes "submit"
Asks text Discard = text ≡ codes "discard"

-- The line, without its LF, is not too long, and without the CR at its end it has the form of this command.
abbrev pub Means : List ℕ → Command → Type 0
Means line command = (length line ≤ LINE_LIMIT) × Asks (without_return line) command

-- why the line means no command
abbrev pub IsRefused : List ℕ → BadLine → Type 0
IsRefused line LineTooLong = LINE_LIMIT < length line
IsRefused line BadCommand =
    (length line ≤ LINE_LIMIT) × ((command : Command) → Asks (without_return line) command → ⊥)
