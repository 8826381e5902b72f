-- What the opcode of a question says of it as a question: its flags, what it takes, where it leads, and why it has no value here
-- (own rule; flags, numbers and lengths are those of UEFI 2.8, 33.3.8.2.2 and 33.3.8.3 under the name of each opcode).
use Rattle.std.specs.Prelude.{ℕ, true, ◌==◌, if◌then◌else◌, Option, Some, None, List, [], ◌∷◌, ◌++◌, codes, decimal}
use Rattle.ifr_opcodes.specs.declared.codes.TheConstants.{ACTION, CHECKBOX, DATE, NUMERIC, ORDERED_LIST, PASSWORD, REF, STRING, TIME}
use Rattle.ifr_opcodes.specs.declared.numbers.Display.{Display}
use Rattle.ifr_opcodes.specs.declared.numbers.Display.TheVariants.{Signed, Unsigned, Hexadecimal}
use Rattle.ifr_opcodes.specs.Fields.{display, form_title, has_flag, has_no_empty_set, is_unique_set, numeric_maximum, numeric_minimum, numeric_step, numeric_width, ordered_list_containers, password_maximum, password_minimum, question_flags, question_store, ref_form_set, ref_target, string_maximum, string_minimum}
use Rattle.ifr_opcodes.specs.Forest.{Node}
use Rattle.ifr_opcodes.specs.Opcode.{number}
use Rattle.ifr_nodes.specs.ReferenceFaults.{form_with}
use Rattle.hii_questions.specs.Fields.{Asked}
use Rattle.guard_policy.specs.Policy.{is_never_changed}
use Rattle.form_page.specs.RowValues.{number_text}
use Rattle.form_page.specs.Texts.{utf8}
use Rattle.audit_text.specs.Texts.{guid_text, joined, safe_text}
use Rattle.audit_text.specs.Words.{word_where}
use Rattle.question_audit.specs.Audited.{Audited}
use Rattle.question_audit.specs.QuestionLines.{names_no_set}
use Rattle.question_audit.specs.ConditionFacts.{fact}

-- ---- flags: READ_ONLY, CALLBACK and RESET_REQUIRED

abbrev pub flag_words : ℕ → List (List ℕ)
flag_words flags =
    word_where (has_flag flags 0x01) (codes "readonly")
    ++ word_where (has_flag flags 0x04) (codes "callback")
    ++ word_where (has_flag flags 0x10) (codes "reset")

abbrev pub words_fact : List (List ℕ) → List ℕ
words_fact [] = []
words_fact (word ∷ words) = fact (codes "flags") (joined (codes ", ") (word ∷ words))

abbrev pub flags_fact : List ℕ → List ℕ
flags_fact op = words_fact (flag_words (question_flags op))

-- ---- what it takes

-- a number of a NUMERIC as it shows its values
abbrev pub shown_number : List ℕ → ℕ → List ℕ
shown_number op n = utf8 (number_text (display op) (numeric_width op) n)

-- a step has no sign, and is in hex digits where values are
abbrev pub shown_step : Display → List ℕ → ℕ → List ℕ
shown_step Hexadecimal op step = shown_number op step
shown_step Signed op step = decimal step
shown_step Unsigned op step = decimal step

abbrev pub step_text : List ℕ → ℕ → List ℕ
step_text op step = if step == 0 then [] else codes ", step " ++ shown_step (display op) op step

abbrev pub numeric_range : List ℕ → List ℕ
numeric_range op =
    fact (codes "range")
    (shown_number op (numeric_minimum op) ++ codes " to " ++ shown_number op (numeric_maximum op)
    ++ step_text op (numeric_step op))

-- from so many to so many
abbrev pub span : ℕ → ℕ → List ℕ → List ℕ
span least most what = fact (codes "length") (decimal least ++ codes " to " ++ decimal most ++ what)

-- how many elements an ORDERED_LIST has at least
abbrev pub list_least : List ℕ → ℕ
list_least op = if has_no_empty_set op then 1 else 0

abbrev pub list_length : List ℕ → List ℕ
list_length op =
    span (list_least op) (ordered_list_containers op)
    (if is_unique_set op then codes " elements, each once" else codes " elements")

-- ---- where it leads: to a form of the form set, or to another form set, which zeros do not name

abbrev pub form_behind : Audited → ℕ → Option Node → List ℕ
form_behind a id None = []
form_behind a id (Some form) = codes "form " ++ decimal id ++ codes " " ++ safe_text (a.texts (form_title form.op))

abbrev pub set_fact : Option (List ℕ) → List ℕ
set_fact None = []
set_fact (Some guid) =
    if names_no_set guid then [] else fact (codes "leads") (codes "form set " ++ guid_text true guid)

abbrev pub leads_fact : Audited → List ℕ → Option ℕ → List ℕ
leads_fact a op None = set_fact (ref_form_set op)
leads_fact a op (Some id) = fact (codes "leads") (form_behind a id (form_with a.world.nodes id))

-- ---- by its kind

abbrev pub limits_fact : Audited → Node → List ℕ
limits_fact a n =
    if number n.op == CHECKBOX then fact (codes "range") (codes "0 to 1")
    else if number n.op == NUMERIC then numeric_range n.op
    else if number n.op == STRING
    then span (string_minimum n.op) (string_maximum n.op) (codes " characters")
    else if number n.op == PASSWORD
    then span (password_minimum n.op) (password_maximum n.op) (codes " characters")
    else if number n.op == ORDERED_LIST then list_length n.op
    else if number n.op == REF then leads_fact a n.op (ref_target n.op)
    else []

-- ---- why it can never be changed here

-- a question of a kind that would have a field
abbrev pub unstored_text : ℕ → List ℕ
unstored_text store =
    if store == 0 then codes "store 0: its driver keeps the value"
    else codes "store " ++ decimal store ++ codes " is a store of names and values"

abbrev pub outside_text : Node → List ℕ
outside_text n =
    if number n.op == REF then codes "it leads to no form of this form set"
    else if number n.op == DATE then codes "a DATE, whose value is not kept here"
    else if number n.op == TIME then codes "a TIME, whose value is not kept here"
    else if number n.op == ACTION then codes "an ACTION has no value"
    else unstored_text (question_store n.op)

-- as the policy finds it: a reference without a form, and any other question without a field
abbrev pub outside_fact : Asked → List ℕ
outside_fact q =
    if is_never_changed q then fact (codes "outside") (outside_text q.node) else []
