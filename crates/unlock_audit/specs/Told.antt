-- What opens a question, as a line and as an object of JSON (own rule).
use Rattle.std.specs.Prelude.{ℕ, ◌-◌, ◌==◌, ◌≡◌, nat_le, is_some, true, ℤ, Bool, if◌then◌else◌, Option, Some, None, option_map, Result, Ok, List, [], ◌∷◌, ◌++◌, codes, decimal, length, map}
use Rattle.std.specs.Fmt.{signed_decimal}
use Rattle.std.specs.List.{find}
use Rattle.hii_bytes.specs.Texts.{right_aligned}
use Rattle.hii_bytes.specs.Watching.{Pen, Writes}
use Rattle.ifr_opcodes.specs.Fields.{question_id, statement_prompt}
use Rattle.ifr_opcodes.specs.Forest.{Node}
use Rattle.ifr_nodes.specs.Guards.{guards}
use Rattle.ifr_nodes.specs.Nodes.{nodes_of}
use Rattle.hii_values.specs.Denials.{kind_name}
use Rattle.hii_values.specs.declared.denial.DenialKind.{DenialKind}
use Rattle.hii_questions.specs.Fields.{Asked, Field, asked, question_with}
use Rattle.guard_policy.specs.declared.denial.Denial.{Denial}
use Rattle.audit_text.specs.Texts.{ascii_name, hex_text, joined, safe_text}
use Rattle.audit_json.specs.Json.{escaped}
use Rattle.audit_json.specs.Objects.{array_member, number_member, object, quoted, text_member, word_member}
use Rattle.audit_json.specs.Telling.{told_as}
use Rattle.audit_json.specs.declared.telling.Telling.{Telling}
use Rattle.audit_json.specs.declared.telling.Telling.TheVariants.{Lines, Objects}
use Rattle.question_audit.specs.FormLines.{denial_text}
use Rattle.question_audit.specs.QuestionLines.{name_of, store_with, verdict_columns}
use Rattle.question_audit.specs.ConditionFacts.{condition_words}
use Rattle.question_audit.specs.QuestionFacts.{no_question, no_question_words}
use Rattle.image_audit.specs.Lines.{number_text}
use Rattle.session_steps.specs.State.{State, texts}
use Rattle.unlock_audit.specs.Unlock.{Answer, Unlock, all_tries, asked_questions, driver, found, more, most_tries, never, none, opened, unlock, written}
use Rattle.unlock_audit.specs.Tries.{bytes_taken}
use Rattle.unlock_audit.specs.declared.moves.Move.{Move}

-- ---- commands

abbrev pub set_text : Move → List ℕ
set_text m = codes "set " ++ decimal m.id ++ codes " " ++ signed_decimal m.value

-- ---- the reason for which none opens it, with a condition of at most 80 characters

abbrev pub short_condition : Option Node → List ℕ
short_condition None = []
short_condition (Some g) = if nat_le (length (condition_words g)) 80 then codes ": " ++ condition_words g else []

abbrev pub reason_text : Node → Denial → List ℕ
reason_text n reason =
    denial_text reason ++ short_condition (find (λ g. g.place == reason.place) (guards n))

-- ---- a field that is written: NAME:0xOFFSET(WIDTH)=0xNUMBER, where no bracket stands in the name

abbrev pub without_bracket : ℕ → ℕ
without_bracket c = if c == 93 then 63 else c

abbrev pub store_text : Telling → List Node → ℕ → List ℕ
store_text telling ns store =
    let name = map without_bracket (ascii_name (name_of (store_with ns store))) in
    told_as telling name (escaped name)

abbrev pub bytes_text : List ℕ → List ℕ
bytes_text bytes = codes "=" ++ number_text bytes

abbrev pub field_text : Telling → List Node → Field → List ℕ
field_text telling ns field =
    store_text telling ns field.store ++ codes ":0x" ++ hex_text field.offset
    ++ codes "(" ++ decimal field.width ++ codes ")"

abbrev pub taken_text : Telling → List Node → Option Field → Result (List ℕ) DenialKind → List ℕ
taken_text telling ns (Some field) (Ok bytes) = field_text telling ns field ++ bytes_text bytes
taken_text telling ns _ _ = []

abbrev pub value_text : Telling → List Node → ℤ → Option Asked → List ℕ
value_text telling ns value None = []
value_text telling ns value (Some q) = taken_text telling ns q.field (bytes_taken q value)

abbrev pub write_text : Telling → List Node → Move → List ℕ
write_text telling ns m = value_text telling ns m.value (option_map (asked ns) (question_with ns m.id))

-- ---- in a line

abbrev pub ids_text : List ℕ → List ℕ
ids_text ids = joined (codes ", ") (map (λ id. decimal id) ids)

abbrev pub answer_words : List Node → Asked → Unlock → Answer → List ℕ
answer_words ns q u opened = []
answer_words ns q u (never reason) = codes "never: " ++ reason_text q.node reason
answer_words ns q u (found again list) =
    joined (codes "; ") (map set_text list) ++ (if again then codes "; submit; open again" else [])
answer_words ns q u (written m) = codes "write " ++ write_text Lines ns m
answer_words ns q u more =
    codes "not found in " ++ decimal u.tried ++ codes " tries: " ++ ids_text u.ids
answer_words ns q u none = codes "not found in 3 commands: " ++ ids_text u.ids
answer_words ns q u driver = codes "driver: " ++ ids_text u.ids

abbrev pub unlock_line : State → Asked → Unlock → List ℕ
unlock_line s q u =
    right_aligned 5 (decimal (question_id q.node.op)) ++ codes " " ++ verdict_columns u.verdict
    ++ codes " [" ++ answer_words (nodes_of s.ifr) q u u.answer ++ codes "] "
    ++ safe_text (texts s (statement_prompt q.node.op)) ++ codes "\n"

-- ---- as an object

abbrev pub verdict_members : Option Denial → List ℕ
verdict_members None = word_member (codes "verdict") (codes "open")
verdict_members (Some denial) =
    word_member (codes "verdict") (kind_name denial.kind) ++ number_member (codes "at") denial.place

abbrev pub answer_word : Answer → List ℕ
answer_word opened = codes "found"
answer_word (never reason) = codes "never"
answer_word (found again list) = if again then codes "again" else codes "found"
answer_word (written m) = codes "write"
answer_word more = codes "more"
answer_word none = codes "none"
answer_word driver = codes "driver"

abbrev pub command_item : Move → List ℕ
command_item m = quoted (set_text m)

abbrev pub command_items : Bool → List Move → List (List ℕ)
command_items again list = map command_item list ++ (if again then quoted (codes "submit") ∷ [] else [])

abbrev pub asks_member : List ℕ → List ℕ
asks_member ids = array_member (codes "asks") (map (λ id. decimal id) ids)

abbrev pub answer_members : List Node → Asked → Unlock → Answer → List ℕ
answer_members ns q u opened = []
answer_members ns q u (never reason) = word_member (codes "reason") (reason_text q.node reason)
answer_members ns q u (found again list) = array_member (codes "commands") (command_items again list)
answer_members ns q u (written m) = word_member (codes "write") (write_text Objects ns m)
answer_members ns q u more = asks_member u.ids
answer_members ns q u none = asks_member u.ids
answer_members ns q u driver = asks_member u.ids

abbrev pub unlock_object : State → Asked → Unlock → List ℕ
unlock_object s q u =
    object (codes "unlock")
    (number_member (codes "id") (question_id q.node.op) ++ verdict_members u.verdict
    ++ word_member (codes "found") (answer_word u.answer)
    ++ answer_members (nodes_of s.ifr) q u u.answer
    ++ number_member (codes "tried") u.tried
    ++ text_member (codes "prompt") (texts s (statement_prompt q.node.op)))

-- ---- one question, or all that are asked, which share the tries

abbrev pub unlock_told : Telling → State → Asked → Unlock → List ℕ
unlock_told telling s q u = told_as telling (unlock_line s q u) (unlock_object s q u)

-- as far as so many tries are left
abbrev pub each_told : Telling → State → ℕ → List Asked → List ℕ
each_told telling s left [] = []
each_told telling s left (q ∷ qs) =
    let u = unlock s (most_tries left) q in
    unlock_told telling s q u ++ each_told telling s (left - u.tried) qs

unfoldable pub unlocks_told : Telling → State → List ℕ
unlocks_told telling s = each_told telling s all_tries (asked_questions s)

-- the question of an id, whatever it is; or that there is none
abbrev pub no_question_told : Telling → ℕ → List ℕ
no_question_told telling id =
    told_as telling (no_question id) (object (codes "error") (word_member (codes "text") (no_question_words id)))

abbrev pub one_told : Telling → State → ℕ → Option Node → List ℕ
one_told telling s id None = no_question_told telling id
one_told telling s id (Some n) =
    let q = asked (nodes_of s.ifr) n in unlock_told telling s q (unlock s (most_tries all_tries) q)

unfoldable pub unlock_of_told : Telling → State → ℕ → List ℕ
unlock_of_told telling s id = one_told telling s id (question_with (nodes_of s.ifr) id)

-- all that are asked, or the question of an id
abbrev pub asked_told : Telling → State → Option ℕ → List ℕ
asked_told telling s None = unlocks_told telling s
asked_told telling s (Some id) = unlock_of_told telling s id

-- whether there is a question of the id that is asked for
abbrev pub is_there_asked : State → Option ℕ → Bool
is_there_asked s None = true
is_there_asked s (Some id) = is_some (question_with (nodes_of s.ifr) id)

-- That is written behind what stood there.
pub record TellsUnlock (telling : Telling) (is_there : Bool) (s : State) (id : Option ℕ) (old new : Pen) : Type 0 where
  pub there : is_there ≡ is_there_asked s id
  pub told : Writes old new (asked_told telling s id)
