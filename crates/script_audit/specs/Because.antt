-- Why a line of a script is denied or refused (own rule).
use Rattle.std.specs.Prelude.{ℕ, ◌+◌, ◌-◌, ◌^◌, min, ◌==◌, ◌&&◌, ◌||◌, Bool, if◌then◌else◌, Option, Some, None, List, [], ◌++◌, codes, decimal, filter, take}
use Rattle.std.specs.List.{find, flat_map}
use Rattle.bstr.specs.Utf8.{lossy_chars}
use Rattle.hii_bytes.specs.Cause.{number_of}
use Rattle.hii_bytes.specs.Texts.{cause_text, place_text}
use Rattle.hii_bytes.specs.declared.cause.Cause.{Cause}
use Rattle.hii_bytes.specs.declared.cause.Cause.TheVariants.{BadCommand, LineTooLong}
use Rattle.ifr_opcodes.specs.declared.codes.TheConstants.{CHECKBOX, NUMERIC, ONE_OF, ORDERED_LIST, PASSWORD, REF, STRING}
use Rattle.ifr_opcodes.specs.Fields.{has_no_empty_set, is_unique_set, numeric_maximum, numeric_minimum, numeric_step, option_value, ordered_list_containers, password_maximum, password_minimum, string_maximum, string_minimum}
use Rattle.ifr_opcodes.specs.Forest.{Node}
use Rattle.ifr_opcodes.specs.Opcode.{number}
use Rattle.ifr_opcodes.specs.Rows.{is_condition_number}
use Rattle.ifr_nodes.specs.Guards.{is_guard}
use Rattle.ifr_nodes.specs.Nodes.{is_statement, options}
use Rattle.hii_values.specs.Denials.{has_text, kind_name}
use Rattle.hii_values.specs.declared.denial.DenialKind.{DenialKind}
use Rattle.hii_values.specs.declared.denial.DenialKind.TheVariants.{DisableIf, SuppressIf, GrayOutIf, Locked, ReadOnly, Outside, Kind, Range, NoOption, Length, Repeat, EmptySet, BadText, InconsistentIf, NoSubmitIf, NoQuestion, NotRef, NotButton, NoRow, NoBack, DeepHistory, NoStore, NoField, Password}
use Rattle.hii_questions.specs.Fields.{Asked, questions}
use Rattle.guard_policy.specs.declared.denial.Denial.{Denial}
use Rattle.audit_text.specs.Texts.{hex_text}
use Rattle.audit_text.specs.Words.{opcode_name}
use Rattle.audit_json.specs.declared.telling.Telling.{Telling}
use Rattle.session_steps.specs.declared.reply.Reply.{Reply}
use Rattle.session_steps.specs.declared.reply.Reply.TheVariants.{Accepted, Denied, Refused}
use Rattle.question_audit.specs.ConditionFacts.{condition_words}
use Rattle.question_audit.specs.Limits.{outside_text, shown_number, step_text}
use Rattle.script_audit.specs.Script.{Line}
use Rattle.script_audit.specs.Sentences.{bad_command_text}
use Rattle.script_audit.specs.Told.{back, front, numbered_front, spelled}
use Rattle.script_audit.specs.Depends.{all_depends}
use Rattle.script_audit.specs.Values.{Seen}

-- ---- the line at which a script ends, and its answer

-- the first 200 characters of a line
abbrev pub line_chars : List ℕ → List ℕ
line_chars bytes = take 200 (lossy_chars bytes)

abbrev pub line_told : Telling → Line → List ℕ
line_told telling line =
    numbered_front telling line.number (codes "line") (codes "command")
    ++ spelled telling (line_chars line.bytes) ++ back telling

abbrev pub message_told : Telling → Seen → Denial → List ℕ
message_told telling a denial =
    if has_text denial.kind then codes " " ++ spelled telling (a.texts denial.message) else []

abbrev pub answer_text : Telling → Seen → Reply → List ℕ
answer_text telling a Accepted = []
answer_text telling a (Denied denial) =
    codes "DENIED " ++ kind_name denial.kind ++ codes " at " ++ place_text denial.place
    ++ message_told telling a denial
answer_text telling a (Refused cause) = cause_text cause

abbrev pub answer_told : Telling → Seen → Reply → List ℕ
answer_told telling a reply =
    front telling (codes "") (codes "answer") (codes "answer") ++ answer_text telling a reply ++ back telling

-- ---- a condition that forbids it

-- how the condition of the opcode that denies is; nothing where no condition does
abbrev pub state_words : DenialKind → Option (List ℕ)
state_words DisableIf = Some (codes "was removed")
state_words SuppressIf = Some (codes "holds")
state_words GrayOutIf = Some (codes "holds")
state_words NoSubmitIf = Some (codes "holds")
state_words InconsistentIf = Some (codes "would hold")
state_words _ = None

abbrev pub has_condition : Node → Bool
has_condition n = is_guard (number n.op) || is_condition_number (number n.op)

-- the opcode with a condition at a place
abbrev pub condition_at : List Node → ℕ → Option Node
condition_at ns place = find (λ n. has_condition n && (n.place == place)) ns

-- the byte of an opcode in the file that was given, at most 2^64 - 1
abbrev pub condition_text : ℕ → List ℕ → Node → List ℕ
condition_text package_place state c =
    opcode_name (number c.op) ++ codes " at " ++ place_text c.place ++ codes " (byte "
    ++ hex_text (min (package_place + c.place) (2 ^ 64 - 1)) ++ codes ") " ++ state ++ codes ": " ++ condition_words c

-- ---- a question, or another statement, that does not take it

-- which values a question takes, as its own audit says it
abbrev pub number_limits : List ℕ → List ℕ
number_limits op =
    codes "range " ++ shown_number op (numeric_minimum op) ++ codes " to " ++ shown_number op (numeric_maximum op)
    ++ step_text op (numeric_step op)

abbrev pub length_limits : ℕ → ℕ → List ℕ → List ℕ
length_limits least most what =
    codes "length " ++ decimal least ++ codes " to " ++ decimal most ++ what

abbrev pub element_limits : List ℕ → List ℕ
element_limits op =
    length_limits (if has_no_empty_set op then 1 else 0) (ordered_list_containers op)
    (if is_unique_set op then codes " elements, each once" else codes " elements")

abbrev pub limits_words : Node → List ℕ
limits_words n =
    if number n.op == CHECKBOX then codes "range 0 to 1"
    else if number n.op == NUMERIC then number_limits n.op
    else if number n.op == STRING
    then length_limits (string_minimum n.op) (string_maximum n.op) (codes " characters")
    else if number n.op == PASSWORD
    then length_limits (password_minimum n.op) (password_maximum n.op) (codes " characters")
    else if number n.op == ORDERED_LIST then element_limits n.op
    else []

abbrev pub option_word : Node → List ℕ
option_word o = codes " " ++ decimal (option_value o.op)

abbrev pub option_words : Node → List ℕ
option_words n = codes "its options are" ++ flat_map option_word (options n)

-- the command that a question takes
abbrev pub taken_word : Node → List ℕ
taken_word n =
    if number n.op == CHECKBOX then codes "set"
    else if number n.op == NUMERIC then codes "set"
    else if number n.op == ONE_OF then codes "set"
    else if number n.op == STRING then codes "text"
    else if number n.op == PASSWORD then codes "text"
    else if number n.op == ORDERED_LIST then codes "order"
    else if number n.op == REF then codes "go"
    else codes "no value here"

abbrev pub kind_words : Node → List ℕ
kind_words n = codes "a " ++ opcode_name (number n.op) ++ codes " takes " ++ taken_word n

abbrev pub name_words : Node → List ℕ
name_words n = codes "it is a " ++ opcode_name (number n.op)

abbrev pub of_question : (Node → List ℕ) → Option Asked → List ℕ
of_question words None = []
of_question words (Some q) = words q.node

abbrev pub question_at : List Node → ℕ → Option Asked
question_at ns place = find (λ q. q.node.place == place) (questions ns)

abbrev pub of_statement : (Node → List ℕ) → Option Node → List ℕ
of_statement words None = []
of_statement words (Some n) = words n

abbrev pub statement_at : List Node → ℕ → Option Node
statement_at ns place = find (λ n. n.place == place) (filter is_statement ns)

-- by the question at the place of the denial
abbrev pub question_words : DenialKind → Node → List ℕ
question_words Outside n = outside_text n
question_words Kind n = kind_words n
question_words Range n = limits_words n
question_words Length n = limits_words n
question_words NoOption n = option_words n
question_words NotRef n = name_words n
question_words _ n = []

-- by the statement there
abbrev pub statement_words : DenialKind → Node → List ℕ
statement_words NotButton n = name_words n
statement_words _ n = []

-- by the kind alone
abbrev pub fixed_words : DenialKind → List ℕ
fixed_words Locked = codes "a LOCKED locks it"
fixed_words ReadOnly = codes "its flag READ_ONLY is set"
fixed_words Repeat = codes "each option once"
fixed_words EmptySet = codes "one element at least"
fixed_words BadText = codes "no UTF-8, a NUL or a character above U+FFFF"
fixed_words NoQuestion = codes "no question has this id"
fixed_words NoRow = codes "the page has no such row"
fixed_words NoBack = codes "no form was left by go"
fixed_words DeepHistory = codes "32 forms were left by go"
fixed_words NoStore = codes "no store of the list has this GUID, NAME and PATH"
fixed_words NoField = codes "no question has exactly this block"
fixed_words Password = codes "the block has bytes of a password"
fixed_words _ = []

-- ---- the reason of each kind has words of one of these; those of conditions stand above

abbrev pub denial_words : List Node → Denial → List ℕ
denial_words ns denial =
    of_question (question_words denial.kind) (question_at ns denial.place)
    ++ of_statement (statement_words denial.kind) (statement_at ns denial.place) ++ fixed_words denial.kind

abbrev pub cause_words : Telling → List ℕ → Cause → List ℕ
cause_words telling line cause =
    if number_of cause == number_of BadCommand then bad_command_text telling line
    else if number_of cause == number_of LineTooLong then codes "a line has at most 4096 bytes"
    else codes "the configuration text has a fault"

abbrev pub reason_words : Telling → List Node → List ℕ → Reply → List ℕ
reason_words telling ns line Accepted = []
reason_words telling ns line (Denied denial) = denial_words ns denial
reason_words telling ns line (Refused cause) = cause_words telling line cause

-- ---- as it is told

abbrev pub because_told : Telling → List ℕ → List ℕ
because_told telling its = front telling (codes "because  ") (codes "because") (codes "text") ++ its ++ back telling

-- a condition that denies, and how it is
pub record Forbidding : Type 0 where
  pub state : List ℕ
  pub condition : Node

abbrev pub forbidding_by : List ℕ → Option Node → Option Forbidding
forbidding_by state None = None
forbidding_by state (Some c) = Some record { state = state; condition = c }

abbrev pub forbidding_at : Option (List ℕ) → Option Node → Option Forbidding
forbidding_at None c = None
forbidding_at (Some state) c = forbidding_by state c

abbrev pub forbidding : List Node → Reply → Option Forbidding
forbidding ns (Denied denial) = forbidding_at (state_words denial.kind) (condition_at ns denial.place)
forbidding ns _ = None

-- the line at which a script ends, its answer, why, and on what this depends
abbrev pub forbidden_told : Telling → ℕ → Seen → Line → Reply → Forbidding → List ℕ
forbidden_told telling package_place a line reply f =
    line_told telling line ++ answer_told telling a reply
    ++ because_told telling (condition_text package_place f.state f.condition) ++ all_depends telling a f.condition

abbrev pub plainly_told : Telling → Seen → Line → Reply → List ℕ
plainly_told telling a line reply =
    line_told telling line ++ answer_told telling a reply
    ++ because_told telling (reason_words telling a.world.nodes line.bytes reply)

abbrev pub stopped_by : Telling → ℕ → Seen → Line → Reply → Option Forbidding → List ℕ
stopped_by telling package_place a line reply None = plainly_told telling a line reply
stopped_by telling package_place a line reply (Some f) = forbidden_told telling package_place a line reply f

abbrev pub stop_told : Telling → ℕ → Seen → Line → Reply → List ℕ
stop_told telling package_place a line reply =
    stopped_by telling package_place a line reply (forbidding a.world.nodes reply)
