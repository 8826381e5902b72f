-- Why a line is no command, in words: of the sentences that are so the first (own rule).
use Rattle.std.specs.Prelude.{ℕ, not, nat_lt, Bool, if◌then◌else◌, Option, Some, None, List, ◌++◌, bytes_eq, codes, decimal}
use Rattle.std.specs.List.{list_any}
use Rattle.bstr.specs.Utf8.{lossy_chars}
use Rattle.audit_json.specs.declared.telling.Telling.{Telling}
use Rattle.script_audit.specs.Script.{has_mark}
use Rattle.script_audit.specs.Told.{spelled}
use Rattle.script_audit.specs.Words.{Words, begins_with_space, ends_with_space, first_word, has_two_spaces, hexadecimal_in, is_decimal, is_in_capitals, is_tab, is_too_great, last_word, second_word, wanted_words, word_count}

abbrev pub told_word : Telling → List ℕ → List ℕ
told_word telling word = spelled telling (lossy_chars word)

abbrev pub no_number : Telling → List ℕ → List ℕ
no_number telling word = codes "no number: " ++ told_word telling word

-- of a first number, with the last word of the line
abbrev pub decimal_text : Telling → List ℕ → List ℕ → List ℕ
decimal_text telling word last =
    if not (is_decimal word) then no_number telling word
    else if is_too_great word then codes "a number above 65535"
    else no_number telling last

abbrev pub number_text : Telling → List ℕ → List ℕ → Option ℕ → List ℕ
number_text telling word last None = decimal_text telling word last
number_text telling word last (Some n) =
    codes "a number in hexadecimal, where a decimal one is wanted: " ++ decimal n

-- of a line with as many words as its command wants
abbrev pub arguments_text : Telling → List ℕ → Bool → List ℕ
arguments_text telling text takes_number =
    if takes_number
    then number_text telling (second_word text) (last_word text) (hexadecimal_in (second_word text))
    else if bytes_eq (first_word text) (codes "lang")
    then codes "no language: " ++ told_word telling (second_word text)
    else no_number telling (last_word text)

-- of a line that begins with the word of a command
abbrev pub words_text : Telling → List ℕ → Words → List ℕ
words_text telling text words =
    if has_two_spaces text then codes "two spaces, where one is wanted"
    else if nat_lt (word_count text) words.least then codes "too few words"
    else if nat_lt words.most (word_count text) then codes "too many words"
    else arguments_text telling text words.takes_number

abbrev pub command_text : Telling → List ℕ → Option Words → List ℕ
command_text telling text (Some words) = words_text telling text words
command_text telling text None =
    if is_in_capitals (first_word text) then codes "a command in capitals"
    else codes "no command"

abbrev pub bad_command_text : Telling → List ℕ → List ℕ
bad_command_text telling text =
    if has_mark text then codes "a byte order mark"
    else if list_any is_tab text then codes "a tab, where one space is wanted"
    else if begins_with_space text then codes "a space at the beginning"
    else if ends_with_space text then codes "a space at the end"
    else command_text telling text (wanted_words (first_word text))
