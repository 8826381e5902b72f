-- The sections of the forms, each with the rows of its questions (own rule).
use Rattle.std.specs.Prelude.{ℕ, ◌==◌, Bool, if◌then◌else◌, List, ◌++◌, codes, decimal, length}
use Rattle.std.specs.List.{flat_map}
use Rattle.ifr_opcodes.specs.Fields.{form_id}
use Rattle.ifr_opcodes.specs.Forest.{Node}
use Rattle.hii_questions.specs.Fields.{asked}
use Rattle.audit_text.specs.Texts.{hex_text}
use Rattle.question_audit.specs.Audited.{Audited}
use Rattle.question_audit.specs.FormLines.{form_questions, reach_text}
use Rattle.question_audit.specs.Reach.{reach_of}
use Rattle.question_rows.specs.Links.{form_title_text}
use Rattle.question_rows.specs.Rows.{row}

-- its title, its id and how it is reached, where a test of ids tells which forms are
abbrev pub section_head : Audited → (ℕ → Bool) → Node → List ℕ
section_head a is_reached form =
    codes "<section>\n<h2 id=\"f" ++ hex_text form.place ++ codes "\">" ++ form_title_text a form
    ++ codes " <span class=\"dim small\">form " ++ decimal (form_id form.op)
    ++ reach_text (reach_of a.world is_reached form) ++ codes "</span></h2>\n"

-- what stands above the rows of so many questions
abbrev pub rows_head : ℕ → List ℕ
rows_head count =
    if count == 0 then codes "<p class=\"dim\">No questions.</p>\n"
    else codes "<div class=\"q head\"><div>Id</div><div>State</div><div>Question</div>"
    ++ codes "<div>Value</div><div>Why, and what depends on it</div></div>\n"

abbrev pub row_line : Audited → Node → List ℕ
row_line a n = row a (asked a.world.nodes n) ++ codes "\n"

abbrev pub section : Audited → (ℕ → Bool) → Node → List ℕ
section a is_reached form =
    section_head a is_reached form ++ rows_head (length (form_questions form))
    ++ flat_map (row_line a) (form_questions form) ++ codes "</section>\n"
