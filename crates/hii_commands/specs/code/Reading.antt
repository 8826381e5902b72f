-- What a line means, as the code reads it. A lemma says that it is what the rules say.
use Rattle.std.specs.Prelude.{ℕ, ℤ, pos, neg_ℤ, ◌^◌, ◌==◌, ◌&&◌, ◌||◌, not, nat_le, if◌then◌else◌, Bool, List, [], ◌∷◌, length, take, drop, codes, Option, Some, None, option_map}
use Rattle.std.specs.Char.{is_ascii_alphanumeric, is_ascii_digit}
use Rattle.std.specs.List.{list_all, prefix_len}
use Rattle.std.specs.Option.{unwrap_or}
use Rattle.std.specs.Str.{bytes_eq}
use Rattle.std.specs.Str.Parse.{digits_value}
use Rattle.browser_rules.specs.Script.{Command, Page, Set, Order, Text, Why, Go, Back, Press, Defaults, Extract, Route, Lang, Submit, Discard}
use Rattle.hii_bytes.specs.Digits.{number_below}
use Rattle.hii_bytes.specs.NumberList.{is_number_list, numbers_of}

abbrev pub question_in : List ℕ → Option ℕ
question_in text = number_below 65536 10 5 text

-- how many digits a text begins with
abbrev pub digit_count : List ℕ → ℕ
digit_count text = prefix_len is_ascii_digit text

-- how many digits a text begins with, five at most, and the number that they write
abbrev pub front_digits_in : List ℕ → Option (ℕ × ℕ)
front_digits_in text =
    if nat_le (digit_count text) 5
    then Some (digit_count text, digits_value 10 (take (digit_count text) text)) else None

-- the id of a question that the digits at the front of a text write, and what stands behind them
abbrev pub front_question_in : List ℕ → Option (ℕ × List ℕ)
front_question_in text =
    option_map (λ question. (question, drop (digit_count text) text))
    (question_in (take (digit_count text) text))

-- the id of a default class
abbrev pub default_class_in : List ℕ → Option ℕ
default_class_in text = number_below 65536 10 5 text

-- the number of a row, as nine digits can write it
abbrev pub row_number_in : List ℕ → Option ℕ
row_number_in text = number_below (10 ^ 9) 10 9 text

-- whether the text begins with a word
abbrev pub begins_with : List ℕ → List ℕ → Bool
begins_with text word = bytes_eq (take (length word) text) word

abbrev pub value_in : List ℕ → Option ℤ
value_in text =
    if begins_with text (codes "-")
    then option_map (λ n. neg_ℤ (pos n)) (number_below (2 ^ 64) 10 20 (drop 1 text))
    else if begins_with text (codes "0x")
    then option_map pos (number_below (2 ^ 64) 16 16 (drop 2 text))
    else option_map pos (number_below (2 ^ 64) 10 20 text)

-- the bytes before the first space, and those after it where there is one
abbrev pub cut_word : List ℕ → List ℕ × Option (List ℕ)
cut_word [] = ([], None)
cut_word (b ∷ text) =
    if b == 32 then ([], Some text) else (b ∷ (cut_word text).0, (cut_word text).1)

-- the command of a question and a value, where both are there
abbrev pub question_command : {X : Type 0} → (ℕ → X → Command) → Option ℕ → Option X → Option Command
question_command command None value = None
question_command command (Some q) value = option_map (command q) value

-- the command of `set` over the words behind it
abbrev pub set_in : List ℕ × Option (List ℕ) → Option Command
set_in (question, None) = None
set_in (question, Some value) = question_command Set (question_in question) (value_in value)

-- the numbers of the list behind a word: none where no space follows it
abbrev pub list_in : Option (List ℕ) → Option (List ℕ)
list_in None = Some []
list_in (Some []) = None
list_in (Some (b ∷ list)) = if is_number_list (b ∷ list) then Some (numbers_of (b ∷ list)) else None

-- the command of `order` over the word behind it and the rest
abbrev pub order_in : List ℕ × Option (List ℕ) → Option Command
order_in (question, list) = question_command Order (question_in question) (list_in list)

-- the command of `text` over the word behind it and the rest, which is empty where no space follows
abbrev pub text_in : List ℕ × Option (List ℕ) → Option Command
text_in (question, rest) = question_command Text (question_in question) (Some (unwrap_or rest []))

-- the command of `why` over what stands behind it
abbrev pub why_in : List ℕ → Option Command
why_in text = option_map Why (question_in text)

-- the command of `go` over what stands behind it
abbrev pub go_in : List ℕ → Option Command
go_in text = option_map Go (question_in text)

-- the command of `press` over what stands behind it
abbrev pub press_in : List ℕ → Option Command
press_in text = option_map Press (row_number_in text)

-- the command of `defaults` over what stands behind it
abbrev pub defaults_in : List ℕ → Option Command
defaults_in text = option_map Defaults (default_class_in text)

-- a letter, a digit or a hyphen, as ASCII has them
abbrev pub is_language_byte : ℕ → Bool
is_language_byte byte = is_ascii_alphanumeric byte || byte == 45

-- the command of `lang` over what stands behind it
abbrev pub lang_in : List ℕ → Option Command
lang_in text =
    if nat_le 1 (length text) && (nat_le (length text) 63 && list_all is_language_byte text)
    then Some (Lang text) else None

-- a byte within a word
abbrev pub is_word_byte : ℕ → Bool
is_word_byte byte = not (byte == 32)

-- whether the text is one word
abbrev pub is_one_word : List ℕ → Bool
is_one_word text = nat_le 1 (length text) && list_all is_word_byte text

-- the command of a first word over the one word behind it
abbrev pub word_command : (List ℕ → Command) → List ℕ → Option Command
word_command command text = if is_one_word text then Some (command text) else None

-- the command of a word that stands alone
abbrev pub plain_in : List ℕ → Option Command
plain_in word =
    if bytes_eq word (codes "page") then Some Page
    else if bytes_eq word (codes "back") then Some Back
    else if bytes_eq word (codes "submit") then Some Submit
    else if bytes_eq word (codes "discard") then Some Discard
    else None

-- the command of a first word that one number follows
abbrev pub numbered_in : List ℕ → List ℕ → Option Command
numbered_in word rest =
    if bytes_eq word (codes "why") then why_in rest
    else if bytes_eq word (codes "go") then go_in rest
    else if bytes_eq word (codes "press") then press_in rest
    else if bytes_eq word (codes "defaults") then defaults_in rest
    else None

-- the command of a first word that one word follows
abbrev pub worded_in : List ℕ → List ℕ → Option Command
worded_in word rest =
    if bytes_eq word (codes "lang") then lang_in rest
    else if bytes_eq word (codes "extract") then word_command Extract rest
    else if bytes_eq word (codes "route") then word_command Route rest
    else numbered_in word rest

-- the command of a first word other than `set` and the rest behind its space
abbrev pub spaced_in : List ℕ → List ℕ → Option Command
spaced_in word rest =
    if bytes_eq word (codes "order") then order_in (cut_word rest)
    else if bytes_eq word (codes "text") then text_in (cut_word rest)
    else worded_in word rest

-- the command of a first word and the rest behind its space
abbrev pub words_in : List ℕ × Option (List ℕ) → Option Command
words_in (word, None) = plain_in word
words_in (word, Some rest) =
    if bytes_eq word (codes "set") then set_in (cut_word rest) else spaced_in word rest

-- the command that a text without LF and CR is
abbrev pub command_in : List ℕ → Option Command
command_in text = words_in (cut_word text)
