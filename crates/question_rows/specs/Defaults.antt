-- The default of a question, where the question takes it and has another value (own rule; defaults are those of UEFI 2.8, 33.2.5.8).
use Rattle.std.specs.Prelude.{ℕ, ◌==◌, bytes_eq, if◌then◌else◌, Option, Some, None, List, [], ◌++◌, codes}
use Rattle.ifr_opcodes.specs.declared.codes.TheConstants.{CHECKBOX, ONE_OF}
use Rattle.ifr_opcodes.specs.Forest.{Node}
use Rattle.ifr_opcodes.specs.Opcode.{number}
use Rattle.ifr_expr.specs.Values.{Value, natural}
use Rattle.hii_questions.specs.Fields.{Asked}
use Rattle.audit_html.specs.Html.{html_text}
use Rattle.form_page.specs.RowValues.{choice}
use Rattle.question_audit.specs.Audited.{Audited}
use Rattle.question_audit.specs.QuestionLines.{unguarded}
use Rattle.question_audit.specs.ScriptValues.{behind, default_taken, script_value, stored_value}
use Rattle.question_rows.specs.Elements.{html_line, small}
use Rattle.question_rows.specs.Shown.{on_or_off}

-- the text of the option that a value of a ONE_OF is, whether it is hidden or not
abbrev pub behind_number : Option (List ℕ) → List ℕ
behind_number None = []
behind_number (Some text) = codes " " ++ html_text text

abbrev pub choice_behind : Audited → Node → Value → List ℕ
choice_behind a n (natural m) = behind_number (choice a.texts (unguarded a.world) n m)
choice_behind a n _ = []

abbrev pub option_behind : Audited → Node → Value → List ℕ
option_behind a n its = if number n.op == ONE_OF then choice_behind a n its else []

-- a value, which scripts take in these words
abbrev pub default_words : Audited → Node → Value → List ℕ → List ℕ
default_words a n its script =
    if number n.op == CHECKBOX then on_or_off its
    else codes "<bdi>" ++ html_line script ++ option_behind a n its ++ codes "</bdi>"

-- told where scripts take it in other words than the value that is stored
abbrev pub other_default : Audited → Node → List ℕ → Value → List ℕ → List ℕ
other_default a n stored its script =
    if bytes_eq script stored then [] else small (codes "default " ++ default_words a n its script)

abbrev pub script_default : Audited → Node → List ℕ → Value → Option (List ℕ) → List ℕ
script_default a n stored its None = []
script_default a n stored its (Some script) = other_default a n stored its script

abbrev pub taken_default : Audited → Node → List ℕ → Option Value → List ℕ
taken_default a n stored None = []
taken_default a n stored (Some its) = script_default a n stored its (script_value n its)

-- that of the class standard
abbrev pub default_part : Audited → Asked → List ℕ
default_part a q =
    taken_default a q.node (behind [] (stored_value a.stores q)) (default_taken a q 0)
