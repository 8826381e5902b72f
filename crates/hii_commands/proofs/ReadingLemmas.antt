-- How the code reads a line is what the rules say, and what the form of a command says.
use Rattle.std.proofs.Common.{◌≡◌, ◌↔◌, ◌<◌, ◌≤◌, if◌then◌else◌, ◌==◌, ◌&&◌, ◌^◌, ℕ, ℤ, pos, neg_ℤ, Bool, true, false, List, [], ◌∷◌, length, map, drop, codes, nat_lt, nat_le, Option, Some, None, Result, Ok, Err, is_some, option_map, option_and_then, unwrap_or, ok_or, refl, sym, ap, ap₂, ◌∙◌, inl, inr}
use Rattle.std.specs.Char.{is_digit}
use Rattle.std.specs.List.{list_all, slice_split}
use Rattle.std.specs.Str.{bytes_eq}
use Rattle.std.specs.Str.Parse.{digits_value}
use Rattle.std.proofs.Math.Dec.{leb-suc-suc}
use Rattle.std.proofs.lemmas.Bool.{cases_Bool, cases_lt, cond-true, lt-ltb, le-ltb}
use Rattle.std.proofs.lemmas.Slice.Eq.{bytes_eq-Decides}
use Prim.Native.String.{String}
use Rattle.browser_rules.specs.Script.{Command, Set, Order, Text, Lang, command_of, without_return}
use Rattle.browser_rules.specs.Words as words
use Rattle.browser_rules.specs.Words.{Cause, BadCommand, LineTooLong}
use Rattle.hii_bytes.specs.Digits.{number_below}
use Rattle.hii_bytes.specs.NumberList.{is_element}
use Rattle.hii_commands.specs.Meaning.{cause_meant}
use Rattle.hii_commands.specs.declared.command.BadLine.{BadLine}
use Rattle.hii_commands.specs.declared.command.BadLine.TheVariants as bad
use Rattle.hii_commands.specs.laws.Asking.{Asks, Means, IsRefused}
use Rattle.hii_commands.specs.code.Reading.{command_in, cut_word, begins_with, value_in, list_in, question_in, question_command, set_in, order_in, text_in, lang_in, is_language_byte}
use Rattle.hii_commands.proofs.CommandLemmas.{found, asked}

-- ---- numbers

-- how the number of a text is read: below a limit, in a radix, of so many digits at most
abbrev Reader : Type 0
Reader = (limit radix most : ℕ) → List ℕ → Option ℕ

-- the tests of a number in either order
swapped : (a b c d : Bool) → (a && (b && (c && d))) ≡ (a && c && b && d)
swapped false b c d = refl
swapped true b true d = refl
swapped true true false d = refl
swapped true false false d = refl

pub same_number : (limit radix most : ℕ) (text : List ℕ) → number_below limit radix most text ≡ words.number_below limit radix most text
same_number limit radix most text =
    ap (λ (tests : Bool). if tests then Some (digits_value radix text) else None)
    (swapped (nat_lt 0 (length text)) (list_all (λ byte. is_digit byte radix) text) (nat_le (length text) most) (nat_lt (digits_value radix text) limit))

same_numbers : ◌≡◌ {A = Reader} number_below words.number_below
same_numbers = λ i limit radix most text. same_number limit radix most text i

-- ---- words

language_means : (text : List ℕ)
    → lang_in text ≡ if nat_lt 0 (length text) && (nat_lt (length text) 64 && list_all is_language_byte text) then Some (Lang text) else None
language_means text =
    ap (λ (few : Bool). if nat_lt 0 (length text) && (few && list_all is_language_byte text) then Some (Lang text) else None) (sym (leb-suc-suc (length text) 63))

-- ---- questions

-- a command of a question and a value that is read the same
question_means : {X : Type 0} (make : ℕ → X → Command) (question : List ℕ) (value other : Option X) → value ≡ other
    → question_command make (question_in question) value
    ≡ option_and_then (λ id. option_map (make id) other) (words.number_below 65536 10 5 question)
question_means {X = X} make question value other same =
    behind (number_below 65536 10 5 question) value
    ∙ ap₂ (λ o v. option_and_then (λ id. option_map (make id) v) o) (same_number 65536 10 5 question) same
  where
    behind : (o : Option ℕ) (v : Option X) → question_command make o v ≡ option_and_then (λ id. option_map (make id) v) o
    behind None v = refl
    behind (Some id) v = refl

-- a value, over a reader of numbers
abbrev value_by : Reader → List ℕ → Option ℤ
value_by number text =
    if begins_with text (codes "-") then option_map (λ n. neg_ℤ (pos n)) (number (2 ^ 64) 10 20 (drop 1 text))
    else if begins_with text (codes "0x") then option_map pos (number (2 ^ 64) 16 16 (drop 2 text))
    else option_map pos (number (2 ^ 64) 10 20 text)

value_means : (parts : List ℕ × Option (List ℕ))
    → set_in parts
    ≡ option_and_then (λ id. option_map (Set id) (option_and_then (value_by words.number_below) parts.1)) (words.number_below 65536 10 5 parts.0)
value_means (question, None) = none (question_in question) ∙ question_means Set question None None refl
  where
    none : (o : Option ℕ) → None ≡ question_command Set o None
    none None = refl
    none (Some id) = refl
value_means (question, Some value) =
    question_means Set question (value_in value) (value_by words.number_below value) (ap (λ number. value_by number value) same_numbers)

-- a list, over a reader of numbers
abbrev numbers_by : Reader → List (List ℕ) → Option (List ℕ)
numbers_by number [] = Some []
numbers_by number (part ∷ parts) =
    option_and_then (λ n. option_map (λ ns. n ∷ ns) (numbers_by number parts)) (number (2 ^ 64) 10 20 part)

abbrev list_by : Reader → Option (List ℕ) → Option (List ℕ)
list_by number None = Some []
list_by number (Some list) = numbers_by number (slice_split (λ byte. byte == 44) list)

-- each part is a number, or there is no list
all_numbers : (parts : List (List ℕ)) → (if list_all is_element parts then Some (map (digits_value 10) parts) else None) ≡ numbers_by number_below parts
all_numbers [] = refl
all_numbers (part ∷ parts) =
    sym (first (nat_lt 0 (length part) && (list_all (λ byte. is_digit byte 10) part && (nat_le (length part) 20 && nat_lt (digits_value 10 part) (2 ^ 64))))
    (list_all is_element parts) (digits_value 10 part) (map (digits_value 10) parts))
    ∙ ap (λ o. option_and_then (λ n. option_map (λ ns. n ∷ ns) o) (number_below (2 ^ 64) 10 20 part)) (all_numbers parts)
  where
    first : (is are : Bool) (n : ℕ) (ns : List ℕ)
        → option_and_then (λ n. option_map (λ ns. n ∷ ns) (if are then Some ns else None)) (if is then Some n else None)
        ≡ if is_some (if is then Some n else None) && are then Some (n ∷ ns) else None
    first true true n ns = refl
    first true false n ns = refl
    first false are n ns = refl

list_means : (parts : List ℕ × Option (List ℕ))
    → order_in parts
    ≡ option_and_then (λ id. option_map (Order id) (list_by words.number_below parts.1)) (words.number_below 65536 10 5 parts.0)
list_means (question, list) = question_means Order question (list_in list) _ (same list ∙ ap (λ number. list_by number list) same_numbers)
  where
    same : (list : Option (List ℕ)) → list_in list ≡ list_by number_below list
    same None = refl
    same (Some []) = refl
    same (Some (b ∷ list)) = all_numbers (slice_split (λ byte. byte == 44) (b ∷ list))

text_means : (parts : List ℕ × Option (List ℕ))
    → text_in parts
    ≡ option_and_then (λ id. option_map (Text id) (Some (unwrap_or parts.1 []))) (words.number_below 65536 10 5 parts.0)
text_means (question, rest) = question_means Text question (Some (unwrap_or rest [])) _ refl

-- ---- lines

-- what is said of a line that is this command, or none
abbrev told : Option Command → Result Command Cause
told command = ok_or command BadCommand

-- what stands behind a word: nothing, or a text
behind : {G : Type 0} (rest : Option (List ℕ)) → (rest ≡ None → G) → ((text : List ℕ) → rest ≡ Some text → G) → G
behind None nothing some = nothing refl
behind (Some text) nothing some = some text refl

-- the word is this one, with nothing or with a text behind it, or it is another one
word_is : {G : Type 0} (word : List ℕ) (rest : Option (List ℕ)) (first : String) → (word ≡ codes first → rest ≡ None → G)
    → (word ≡ codes first → (text : List ℕ) → rest ≡ Some text → G) → (bytes_eq word (codes first) ≡ false → G) → G
word_is word rest first nothing some other = elim (cases_Bool (bytes_eq word (codes first))) [
  | inl e ↦ let is = (bytes_eq-Decides word (codes first)).0 e in behind rest (nothing is) (some is)
  | inr differs ↦ other differs
]

-- Each word is the first of one form, and each form has one word.
pub short_line : (line : List ℕ) → length line ≤ 4096 → told (command_in (without_return line)) ≡ command_of line
short_line line few = go (cut_word (without_return line)) refl
  where
    short : nat_lt 4096 (length line) ≡ false
    short = le-ltb 4096 (length line) few

    number : (make : ℕ → Command) (limit most : ℕ) (text : List ℕ)
        → told (option_map make (number_below limit 10 most text)) ≡ told (option_map make (words.number_below limit 10 most text))
    number make limit most text = ap (λ o. told (option_map make o)) (same_number limit 10 most text)

    go : (parts : List ℕ × Option (List ℕ)) → cut_word (without_return line) ≡ parts → told (command_in (without_return line)) ≡ command_of line
    go (word, rest) cut =
        rw (short, cut)
        (word_is word rest "page" (λ is r. rw (r, is)) (λ is text r. rw (r, is)) λ a.
        word_is word rest "set" (λ is r. rw (r, is)) (λ is text r. rw (r, is) (ap told (value_means (cut_word text)))) λ b.
        word_is word rest "order" (λ is r. rw (r, is)) (λ is text r. rw (r, is) (ap told (list_means (cut_word text)))) λ c.
        word_is word rest "text" (λ is r. rw (r, is)) (λ is text r. rw (r, is) (ap told (text_means (cut_word text)))) λ d.
        word_is word rest "go" (λ is r. rw (r, is)) (λ is text r. rw (r, is) (number Command.Go 65536 5 text)) λ e.
        word_is word rest "back" (λ is r. rw (r, is)) (λ is text r. rw (r, is)) λ f.
        word_is word rest "press" (λ is r. rw (r, is)) (λ is text r. rw (r, is) (number Command.Press (10 ^ 9) 9 text)) λ g.
        word_is word rest "defaults" (λ is r. rw (r, is)) (λ is text r. rw (r, is) (number Command.Defaults 65536 5 text)) λ h.
        word_is word rest "why" (λ is r. rw (r, is)) (λ is text r. rw (r, is) (number Command.Why 65536 5 text)) λ i.
        word_is word rest "lang" (λ is r. rw (r, is)) (λ is text r. rw (r, is) (ap told (language_means text))) λ j.
        word_is word rest "submit" (λ is r. rw (r, is)) (λ is text r. rw (r, is)) λ k.
        word_is word rest "discard" (λ is r. rw (r, is)) (λ is text r. rw (r, is)) λ l.
        word_is word rest "extract" (λ is r. rw (r, is)) (λ is text r. rw (r, is)) λ m.
        word_is word rest "route" (λ is r. rw (r, is)) (λ is text r. rw (r, is)) λ n.
        behind rest (λ r. rw (r, a, b, c, d, e, f, g, h, i, j, k, l, m, n)) (λ text r. rw (r, a, b, c, d, e, f, g, h, i, j, k, l, m, n)))

pub long_line : (line : List ℕ) → 4096 < length line → command_of line ≡ Err LineTooLong
long_line line long = cond-true _ _ _ (lt-ltb 4096 (length line) long)

-- ---- what the rules find, and the form of a command

pub means_found : (line : List ℕ) (command : Command) → Means line command ↔ (command_of line ≡ Ok command)
means_found line command = (
  (λ means. sym (short_line line means.0) ∙ ap told (found (without_return line) command means.1)),
  (λ e. elim (cases_lt 4096 (length line)) [
    | inl long ↦ let wrong : ◌≡◌ {A = Result Command Cause} (Err LineTooLong) (Ok command) = sym (long_line line long) ∙ e in (cc)
    | inr few ↦ (few, asked (without_return line) command (is (command_in (without_return line)) (short_line line few ∙ e)))
  ]),
)
  where
    is : (o : Option Command) → told o ≡ Ok command → o ≡ Some command
    is None e = cc
    is (Some other) e = let same : other ≡ command = cc in ap Some same

pub refused_found : (line : List ℕ) (why : BadLine) → IsRefused line why ↔ (command_of line ≡ Err (cause_meant why))
refused_found line bad.LineTooLong = (
  (λ long. long_line line long),
  (λ e. elim (cases_lt 4096 (length line)) [
    | inl long ↦ long
    | inr few ↦ not_long (command_in (without_return line)) (short_line line few ∙ e)
  ]),
)
  where
    not_long : (o : Option Command) → told o ≡ Err LineTooLong → 4096 < length line
    not_long None e = cc
    not_long (Some other) e = cc
refused_found line bad.BadCommand = (
  (λ none. sym (short_line line none.0) ∙ not_asked (command_in (without_return line)) refl none.1),
  (λ e. elim (cases_lt 4096 (length line)) [
    | inl long ↦ let wrong : ◌≡◌ {A = Result Command Cause} (Err LineTooLong) (Err BadCommand) = sym (long_line line long) ∙ e in (cc)
    | inr few ↦ (
      few,
      λ command asks.
          let wrong : ◌≡◌ {A = Result Command Cause} (Ok command) (Err BadCommand) =
          ap told (sym (found (without_return line) command asks)) ∙ short_line line few ∙ e in (cc),
    )
  ]),
)
  where
    not_asked : (o : Option Command) → command_in (without_return line) ≡ o → ((command : Command) → Asks (without_return line) command → ⊥) → told o ≡ Err BadCommand
    not_asked None e none = refl
    not_asked (Some command) e none = absurd (none command (asked (without_return line) command e))
