-- What a text of JSON says (RFC 8259), of the values that objects of audits have: numbers without fraction and exponent, texts,
-- `true`, arrays and objects. Rules of the grammar have its words: `/` is `or_else`, `*` is `many`, and what follows is `then_read`.
use Rattle.std.specs.Prelude.{ℕ, zero, suc, ℤ, pos, neg_ℤ, ◌==◌, ◌&&◌, ◌||◌, nat_le, not, Bool, if◌then◌else◌, Option, Some, None, option_map, option_and_then, List, [], ◌∷◌, length, take, drop, codes, bytes_eq, find}
use Rattle.std.specs.Char.{is_digit}
use Rattle.std.specs.Char.Utf16.{utf16_chars}
use Rattle.std.specs.List.{list_all}
use Rattle.std.specs.Str.{chars, is_utf8}
use Rattle.std.specs.Str.Parse.{digits_value}
use Prim.Native.String.{String}

-- a text is its characters; an object is its members in their order, each with its name
mutual
  pub data Value : Type 0 where
    number : ℤ → Value
    string : List ℕ → Value
    truth : Value
    array : Items → Value
    object : Facts → Value

  pub data Items : Type 0 where
    no_items : Items
    item : Value → Items → Items

  pub data Facts : Type 0 where
    no_facts : Facts
    fact : List ℕ → Value → Facts → Facts

-- ---- readers: what stands first in a text, with what is behind it

abbrev pub Reader : Type 0 → Type 0
Reader X = List ℕ → Option (X × List ℕ)

-- nothing, which says this
abbrev pub done : {X : Type 0} → X → Reader X
done x text = Some (x, text)

-- one, and behind it another
abbrev pub bind : {X Y : Type 0} → Option (X × List ℕ) → (X → Reader Y) → Option (Y × List ℕ)
bind None next = None
bind (Some found) next = next found.0 found.1

abbrev pub then_read : {X Y : Type 0} → Reader X → (X → Reader Y) → Reader Y
then_read read next text = bind (read text) next

-- one, or where it does not stand there another
abbrev pub either : {X : Type 0} → Option (X × List ℕ) → Reader X → Reader X
either None second text = second text
either (Some found) second text = Some found

abbrev pub or_else : {X : Type 0} → Reader X → Reader X → Reader X
or_else first second text = either (first text) second text

-- as many as stand there; no more than the text has characters
abbrev pub in_front : {L : Type 0} → (L → L) → L × List ℕ → L × List ℕ
in_front more (list, rest) = (more list, rest)

abbrev pub collected : {X L : Type 0} → L → (X → L → L) → List ℕ → (List ℕ → L × List ℕ) → Option (X × List ℕ) → L × List ℕ
collected none more text again None = (none, text)
collected none more text again (Some found) = in_front (more found.0) (again found.1)

unfoldable pub repeated : {X L : Type 0} → L → (X → L → L) → Reader X → ℕ → List ℕ → L × List ℕ
repeated none more read zero text = (none, text)
repeated none more read (suc most) text = collected none more text (repeated none more read most) (read text)

abbrev pub many : {X L : Type 0} → L → (X → L → L) → Reader X → Reader L
many none more read text = Some (repeated none more read (length text) text)

-- a character of which a test holds, characters of which it holds, and a word
abbrev pub one : (ℕ → Bool) → Reader ℕ
one test [] = None
one test (c ∷ text) = if test c then Some (c, text) else None

abbrev pub all : (ℕ → Bool) → Reader (List ℕ)
all test = many [] (λ c cs. c ∷ cs) (one test)

abbrev pub word : String → Reader (Unit {0})
word w text =
    let size = length (codes w) in if bytes_eq (take size text) (codes w) then Some (tt, drop size text) else None

-- ---- 2 JSON Grammar: white space may stand before each token

abbrev pub is_space : ℕ → Bool
is_space c = c == 0x20 || c == 0x09 || c == 0x0A || c == 0x0D

abbrev pub token : {X : Type 0} → Reader X → Reader X
token read = then_read (all is_space) λ _. read

abbrev pub sign : String → Reader (Unit {0})
sign w = token (word w)

-- ---- 6 Numbers: int = zero / ( digit1-9 *DIGIT )

abbrev pub int : Reader ℕ
int =
    or_else (then_read (word "0") λ _. done 0)
    (then_read (one (λ c. nat_le 49 c && nat_le c 57)) λ digit. then_read (all (λ c. is_digit c 10)) λ digits.
    done (digits_value 10 (digit ∷ digits)))

-- ---- 7 Strings: string = quotation-mark *char quotation-mark

-- what a letter behind a backslash stands for
abbrev pub letters : List (ℕ × ℕ)
letters = (34, 34) ∷ (92, 92) ∷ (47, 47) ∷ (98, 8) ∷ (102, 12) ∷ (110, 10) ∷ (114, 13) ∷ (116, 9) ∷ []

abbrev pub letter : Reader ℕ
letter [] = None
letter (c ∷ text) = option_map (λ row. (row.1, text)) (find (λ row. row.0 == c) letters)

abbrev pub four_digits : Reader ℕ
four_digits text =
    let digits = take 4 text in
    if length digits == 4 && list_all (λ c. is_digit c 16) digits then Some (digits_value 16 digits, drop 4 text) else None

abbrev pub unescaped : Reader ℕ
unescaped = one (λ c. nat_le 0x20 c && not (c == 34 || c == 92))

-- an escape is a unit of UTF-16
abbrev pub escaped : Reader ℕ
escaped = then_read (word "\\") λ _. or_else (then_read (word "u") λ _. four_digits) letter

abbrev pub char : Reader ℕ
char = or_else unescaped escaped

-- the characters, where each surrogate has its partner
abbrev pub with_character : Option ℕ → Option (List ℕ) → Option (List ℕ)
with_character None characters = None
with_character (Some c) characters = option_map (λ cs. c ∷ cs) characters

abbrev pub each_spelled : List (Option ℕ) → Option (List ℕ)
each_spelled [] = Some []
each_spelled (c ∷ cs) = with_character c (each_spelled cs)

abbrev pub spelling : List ℕ → Reader (List ℕ)
spelling units rest = option_map (λ characters. (characters, rest)) (each_spelled (utf16_chars units))

abbrev pub string_in : Reader (List ℕ)
string_in =
    then_read (word "\"") λ _. then_read (many [] (λ unit units. unit ∷ units) char) λ units.
    then_read (word "\"") λ _. spelling units

-- ---- 3 Values, 4 Objects, 5 Arrays

-- [ item *( value-separator item ) ]
abbrev pub listed : {X L : Type 0} → L → (X → L → L) → Reader X → Reader L
listed none more read =
    or_else
    (then_read read λ first. then_read (many none more (then_read (sign ",") λ _. read)) λ others. done (more first others))
    (done none)

-- member = string name-separator value
abbrev pub member_in : Reader Value → Reader (List ℕ × Value)
member_in value = then_read (token string_in) λ name. then_read (sign ":") λ _. then_read value λ v. done (name, v)

abbrev pub array_in : Reader Value → Reader Value
array_in value =
    then_read (sign "[") λ _. then_read (listed no_items item value) λ values.
    then_read (sign "]") λ _. done (array values)

abbrev pub object_in : Reader Value → Reader Value
object_in value =
    then_read (sign "{") λ _.
    then_read (listed no_facts (λ m ms. fact m.0 m.1 ms) (member_in value)) λ members.
    then_read (sign "}") λ _. done (object members)

-- number = [ minus ] int
abbrev pub negative_in : Reader Value
negative_in = then_read (sign "-") λ _. then_read int λ n. done (number (neg_ℤ (pos n)))

abbrev pub number_in : Reader Value
number_in = or_else negative_in (then_read (token int) λ n. done (number (pos n)))

abbrev pub text_in : Reader Value
text_in = then_read (token string_in) λ characters. done (string characters)

abbrev pub true_in : Reader Value
true_in = then_read (sign "true") λ _. done truth

-- value = true / object / array / number / string, which nest no deeper than this
unfoldable pub value : ℕ → Reader Value
value zero text = None
value (suc depth) text =
    or_else number_in (or_else text_in (or_else true_in (or_else (array_in (value depth)) (object_in (value depth))))) text

-- JSON-text = ws value ws
abbrev pub if_last : {X : Type 0} → X × List ℕ → Option X
if_last (x, []) = Some x
if_last (x, c ∷ rest) = None

abbrev pub json : List ℕ → Option Value
json text =
    option_and_then if_last (then_read (value (length text)) (λ v. then_read (all is_space) λ _. done v) text)

-- 8.1 Character Encoding: the bytes of a line are UTF-8
abbrev pub decoded : List ℕ → Option Value
decoded line = if is_utf8 line then json (chars line) else None
