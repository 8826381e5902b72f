-- The value of a question and what it takes (own rule).
use Rattle.std.specs.Prelude.{ℕ, Option, Some, None, List, [], ◌++◌, codes}
use Rattle.ifr_opcodes.specs.Forest.{Node}
use Rattle.hii_questions.specs.Fields.{Asked, Field}
use Rattle.question_audit.specs.Audited.{Audited}
use Rattle.question_audit.specs.QuestionLines.{field_text}
use Rattle.question_rows.specs.Defaults.{default_part}
use Rattle.question_rows.specs.Elements.{dim, html_line}
use Rattle.question_rows.specs.Leads.{leads_part}
use Rattle.question_rows.specs.Limits.{limits_part}
use Rattle.question_rows.specs.Options.{options_part}
use Rattle.question_rows.specs.Shown.{value_part}

-- where its field lies
abbrev pub field_part : List Node → Option Field → List ℕ
field_part ns None = []
field_part ns (Some field) = dim (codes "<code>" ++ html_line (field_text ns field) ++ codes "</code>")

abbrev pub value_cell : Audited → Asked → List ℕ
value_cell a q =
    value_part a q q.field ++ default_part a q ++ limits_part q.node.op ++ options_part a q.node
    ++ field_part a.world.nodes q.field ++ leads_part a q.node
