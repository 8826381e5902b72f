-- The value of a question as a row shows it (own rule).
use Rattle.std.specs.Prelude.{ℕ, ◌==◌, true, if◌then◌else◌, Option, Some, None, List, [], ◌++◌, codes}
use Rattle.ifr_opcodes.specs.declared.codes.TheConstants.{CHECKBOX}
use Rattle.ifr_opcodes.specs.Forest.{Node}
use Rattle.ifr_opcodes.specs.Opcode.{number}
use Rattle.ifr_expr.specs.Values.{Value, boolean}
use Rattle.hii_questions.specs.Answers.{value_of_field}
use Rattle.hii_questions.specs.Fields.{Asked, Field}
use Rattle.question_audit.specs.Audited.{Audited}
use Rattle.question_audit.specs.QuestionLines.{has_no_text, told_value, value_told}
use Rattle.question_rows.specs.Elements.{isolated_line}

-- a CHECKBOX is on or off
abbrev pub on_or_off : Value → List ℕ
on_or_off (boolean true) = codes "on"
on_or_off _ = codes "off"

-- what a page would show if nothing were hidden
abbrev pub told_words : Audited → Node → List ℕ
told_words a n =
    if has_no_text (value_told a n) then codes "<span class=\"dim\">empty</span>"
    else isolated_line (told_value a n)

abbrev pub shown_words : Audited → Asked → List ℕ
shown_words a q =
    if number q.node.op == CHECKBOX then on_or_off (value_of_field a.stores q.node q.field)
    else told_words a q.node

-- of a question with a field
abbrev pub value_part : Audited → Asked → Option Field → List ℕ
value_part a q None = []
value_part a q (Some field) = codes "<p class=\"value\">" ++ shown_words a q ++ codes "</p>"
