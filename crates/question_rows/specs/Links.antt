-- Links to the rows of questions and to forms (own rule).
use Rattle.std.specs.Prelude.{ℕ, List, ◌++◌, codes, decimal}
use Rattle.ifr_opcodes.specs.Fields.{form_title, question_id, statement_prompt}
use Rattle.ifr_opcodes.specs.Forest.{Node}
use Rattle.audit_html.specs.Html.{isolated, link_to, title_text}
use Rattle.question_audit.specs.Audited.{Audited}

-- a question by its id and its prompt
abbrev pub question_link : Audited → Node → List ℕ
question_link a n =
    link_to (codes "q") n.place ++ decimal (question_id n.op) ++ codes " "
    ++ isolated (a.texts (statement_prompt n.op)) ++ codes "</a>"

-- the title of a form
abbrev pub form_title_text : Audited → Node → List ℕ
form_title_text a form = title_text (a.texts (form_title form.op))
