-- References to questions in what a condition says (own rule): each `qN` and `questionref(N)` that names a question of the form set is a
-- link to its row.
use Rattle.std.specs.Prelude.{ℕ, ◌+◌, ◌-◌, ◌^◌, ◌||◌, ◌==◌, Bool, nat_lt, if◌then◌else◌, Option, Some, None, option_and_then, bytes_eq, List, [], ◌∷◌, ◌++◌, codes, drop, length, take}
use Rattle.std.specs.List.{before_first}
use Rattle.hii_bytes.specs.Digits.{number_below}
use Rattle.ifr_opcodes.specs.Forest.{Node}
use Rattle.hii_questions.specs.Fields.{question_with}
use Rattle.audit_html.specs.Html.{link_to}
use Rattle.question_rows.specs.Elements.{html_byte}

-- ---- the reference in front of a text

abbrev pub is_no_digit : ℕ → Bool
is_no_digit b = nat_lt b 48 || nat_lt 57 b

abbrev pub digits_front : List ℕ → List ℕ
digits_front text = before_first is_no_digit text

abbrev pub has_mark : List ℕ → List ℕ → Bool
has_mark mark text = bytes_eq (take (length mark) text) mark

-- what names a question by an id: the digits of this, and how many bytes it is long
pub record Reference : Type 0 where
  pub digits : List ℕ
  pub size : ℕ

-- behind a mark, with so many bytes around the digits
abbrev pub reference_behind : List ℕ → ℕ → List ℕ → Reference
reference_behind mark around text = record {
  digits = digits_front (drop (length mark) text);
  size = length (digits_front (drop (length mark) text)) + around;
}

abbrev pub reference_front : List ℕ → Reference
reference_front text =
    if has_mark (codes "questionref(") text then reference_behind (codes "questionref(") 13 text
    else if has_mark (codes "q") text then reference_behind (codes "q") 1 text
    else record { digits = []; size = 0 }

-- the question that decimal digits name, which has an id of 16 bits
abbrev pub question_of_id : List Node → ℕ → Option Node
question_of_id ns id = if nat_lt id 65536 then question_with ns id else None

abbrev pub question_named : List Node → List ℕ → Option Node
question_named ns digits = option_and_then (question_of_id ns) (number_below (2 ^ 64) 10 5 digits)

-- the one that a text names in front
abbrev pub question_front : List Node → List ℕ → Option Node
question_front ns text = question_named ns (reference_front text).digits

-- ---- byte by byte, where so many bytes of a reference that is a link are left

abbrev pub size_of_link : Option Node → ℕ → ℕ
size_of_link None size = 0
size_of_link (Some n) size = size

abbrev pub start_of_link : Option Node → List ℕ
start_of_link None = []
start_of_link (Some n) = link_to (codes "q") n.place

-- how many are left with this byte, and the start of the link that begins with it
abbrev pub link_left : List Node → ℕ → List ℕ → ℕ
link_left ns left text =
    if left == 0 then size_of_link (question_front ns text) (reference_front text).size else left

abbrev pub link_start : List Node → ℕ → List ℕ → List ℕ
link_start ns left text = if left == 0 then start_of_link (question_front ns text) else []

-- the end of the link that ends with it
abbrev pub link_end : ℕ → List ℕ
link_end left = if left == 1 then codes "</a>" else []

unfoldable pub linked_from : List Node → ℕ → List ℕ → List ℕ
linked_from ns left [] = []
linked_from ns left (b ∷ text) =
    link_start ns left (b ∷ text) ++ html_byte b ++ link_end (link_left ns left (b ∷ text))
    ++ linked_from ns (link_left ns left (b ∷ text) - 1) text

-- the whole text
abbrev pub linked : List Node → List ℕ → List ℕ
linked ns text = linked_from ns 0 text

-- as an element
abbrev pub linked_code : List Node → List ℕ → List ℕ
linked_code ns words = codes "<code>" ++ linked ns words ++ codes "</code>"
