-- The row of a question in a page (own rule).
use Rattle.std.specs.Prelude.{ℕ, List, ◌++◌, codes}
use Rattle.ifr_opcodes.specs.Fields.{question_id}
use Rattle.ifr_opcodes.specs.Forest.{Node}
use Rattle.hii_questions.specs.Fields.{Asked}
use Rattle.audit_text.specs.Texts.{hex_text}
use Rattle.question_audit.specs.Audited.{Audited}
use Rattle.question_rows.specs.Conditions.{conditions_part}
use Rattle.question_rows.specs.Dependences.{dependences_part}
use Rattle.question_rows.specs.States.{state_cell}
use Rattle.question_rows.specs.Subjects.{id_cell, subject_cell}
use Rattle.question_rows.specs.Values.{value_cell}

-- why it may not be changed, and what depends on it
abbrev pub reason_cell : Audited → Asked → List ℕ
reason_cell a q = conditions_part a q ++ dependences_part a q.node

-- its id, and whether it may be changed
abbrev pub row_head : Audited → Node → List ℕ
row_head a n =
    codes "<div class=\"q\" id=\"q" ++ hex_text n.place ++ codes "\"><div class=\"dim\">"
    ++ id_cell (question_id n.op) ++ codes "</div><div>" ++ state_cell a n

-- behind it what it is, its value, and why
abbrev pub row : Audited → Asked → List ℕ
row a q =
    row_head a q.node ++ codes "</div><div>" ++ subject_cell a q.node ++ codes "</div><div>"
    ++ value_cell a q ++ codes "</div><div>" ++ reason_cell a q ++ codes "</div></div>"
