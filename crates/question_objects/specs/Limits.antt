-- What a question takes, where it leads, and why it has no value here (own rule).
use Rattle.std.specs.Prelude.{ℕ, ◌==◌, if◌then◌else◌, Option, Some, None, List, [], ◌++◌, codes, map}
use Rattle.ifr_opcodes.specs.declared.codes.TheConstants.{NUMERIC, ORDERED_LIST, PASSWORD, REF, STRING}
use Rattle.ifr_opcodes.specs.Fields.{display, is_unique_set, numeric_maximum, numeric_minimum, numeric_step, ordered_list_containers, password_maximum, password_minimum, question_flags, ref_form_set, ref_target, string_maximum, string_minimum}
use Rattle.ifr_opcodes.specs.Opcode.{number}
use Rattle.hii_questions.specs.Fields.{Asked}
use Rattle.guard_policy.specs.Policy.{is_never_changed}
use Rattle.audit_json.specs.Objects.{array_member, guid_member, number_member, quoted, word_member}
use Rattle.question_audit.specs.QuestionLines.{names_no_set}
use Rattle.question_audit.specs.Limits.{flag_words, list_least, outside_text, shown_number, shown_step}
use Rattle.question_objects.specs.Members.{member_where}

-- its flags
abbrev pub flags_member : List ℕ → List ℕ
flags_member op = array_member (codes "flags") (map quoted (flag_words (question_flags op)))

-- numbers of a NUMERIC as it shows its values
abbrev pub step_member : List ℕ → ℕ → List ℕ
step_member op step =
    if step == 0 then [] else word_member (codes "step") (shown_step (display op) op step)

abbrev pub numeric_members : List ℕ → List ℕ
numeric_members op =
    word_member (codes "minimum") (shown_number op (numeric_minimum op))
    ++ word_member (codes "maximum") (shown_number op (numeric_maximum op))
    ++ step_member op (numeric_step op)

-- how many characters or elements
abbrev pub count_members : ℕ → ℕ → List ℕ
count_members least most = number_member (codes "least") least ++ number_member (codes "most") most

abbrev pub list_members : List ℕ → List ℕ
list_members op =
    count_members (list_least op) (ordered_list_containers op)
    ++ member_where (is_unique_set op) (codes "unique")

-- to which form, or else to which form set, which zeros do not name
abbrev pub set_member : Option (List ℕ) → List ℕ
set_member None = []
set_member (Some guid) = if names_no_set guid then [] else guid_member (codes "formset") guid

abbrev pub leads_member : List ℕ → Option ℕ → List ℕ
leads_member op None = set_member (ref_form_set op)
leads_member op (Some id) = number_member (codes "leads") id

-- by its kind
abbrev pub limit_members : List ℕ → List ℕ
limit_members op =
    if number op == NUMERIC then numeric_members op
    else if number op == STRING then count_members (string_minimum op) (string_maximum op)
    else if number op == PASSWORD then count_members (password_minimum op) (password_maximum op)
    else if number op == ORDERED_LIST then list_members op
    else if number op == REF then leads_member op (ref_target op)
    else []

-- as the policy finds that it can never be changed
abbrev pub outside_member : Asked → List ℕ
outside_member q =
    if is_never_changed q then word_member (codes "outside") (outside_text q.node) else []

abbrev pub kind_members : Asked → List ℕ
kind_members q = flags_member q.node.op ++ limit_members q.node.op ++ outside_member q
