-- The value of a question, and its defaults (own rule).
use Rattle.std.specs.Prelude.{ℕ, ◌==◌, if◌then◌else◌, Option, Some, None, List, [], ◌++◌, codes}
use Rattle.ifr_opcodes.specs.declared.codes.TheConstants.{STRING}
use Rattle.ifr_opcodes.specs.Forest.{Node}
use Rattle.ifr_opcodes.specs.Opcode.{number}
use Rattle.ifr_expr.specs.Values.{Value}
use Rattle.hii_questions.specs.Answers.{value_of_field}
use Rattle.hii_questions.specs.Fields.{Asked}
use Rattle.audit_json.specs.Objects.{text_member, word_member}
use Rattle.question_audit.specs.Audited.{Audited}
use Rattle.question_audit.specs.QuestionLines.{value_told}
use Rattle.question_audit.specs.ScriptValues.{default_taken, script_value, string_characters}
use Rattle.question_objects.specs.Members.{shown_member}

-- the characters of a text
abbrev pub text_if_there : List ℕ → Option (List ℕ) → List ℕ
text_if_there key None = []
text_if_there key (Some text) = text_member key text

-- digits and signs
abbrev pub word_if_there : List ℕ → Option (List ℕ) → List ℕ
word_if_there key None = []
word_if_there key (Some word) = word_member key word

-- a value as scripts take it; that of a PASSWORD is not told
abbrev pub script_member : List ℕ → Node → Value → List ℕ
script_member key n its =
    if number n.op == STRING then text_if_there key (string_characters its)
    else word_if_there key (script_value n its)

abbrev pub script_if_there : List ℕ → Node → Option Value → List ℕ
script_if_there key n None = []
script_if_there key n (Some its) = script_member key n its

-- the default of a class, where the question takes it (UEFI 2.8, 33.2.5.8 Defaults)
abbrev pub default_member : Audited → Asked → ℕ → List ℕ → List ℕ
default_member a q class key = script_if_there key q.node (default_taken a q class)

-- its value, and what a page would show of it if nothing were hidden
abbrev pub value_member : Audited → Asked → List ℕ
value_member a q = script_member (codes "value") q.node (value_of_field a.stores q.node q.field)

-- with its defaults of the classes standard and manufacturing
abbrev pub value_members : Audited → Asked → List ℕ
value_members a q =
    value_member a q ++ shown_member (codes "shown") (value_told a q.node)
    ++ default_member a q 0 (codes "default") ++ default_member a q 1 (codes "manufacturing")
