-- The list of the forms (own rule).
use Rattle.std.specs.Prelude.{ℕ, Bool, List, ◌++◌, codes, decimal, filter, length}
use Rattle.std.specs.List.{flat_map}
use Rattle.ifr_opcodes.specs.Forest.{Node}
use Rattle.ifr_nodes.specs.Nodes.{is_form}
use Rattle.audit_html.specs.Html.{link_to}
use Rattle.question_audit.specs.Audited.{Audited}
use Rattle.question_audit.specs.FormLines.{form_questions, reach_text}
use Rattle.question_audit.specs.Reach.{reach_of}
use Rattle.question_rows.specs.Links.{form_title_text}

-- a form: a link to its section, how many questions it has, and how it is reached, where a test of ids tells which forms are
abbrev pub form_item : Audited → (ℕ → Bool) → Node → List ℕ
form_item a is_reached form =
    codes "<li>" ++ link_to (codes "f") form.place ++ form_title_text a form
    ++ codes "</a> <span class=\"dim small\">" ++ decimal (length (form_questions form))
    ++ reach_text (reach_of a.world is_reached form) ++ codes "</span>\n"

-- the forms by place
abbrev pub contents : Audited → (ℕ → Bool) → List ℕ
contents a is_reached =
    codes "<nav>\n<strong>Forms</strong>\n<ol>\n"
    ++ flat_map (form_item a is_reached) (filter is_form a.world.nodes) ++ codes "</ol>\n</nav>\n"
