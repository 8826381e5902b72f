-- The options of a question (own rule): those with a denial of their own are struck out.
use Rattle.std.specs.Prelude.{ℕ, Bool, if◌then◌else◌, is_some, List, ◌++◌, codes, decimal, map}
use Rattle.ifr_opcodes.specs.Fields.{option_text, option_value}
use Rattle.ifr_opcodes.specs.Forest.{Node}
use Rattle.ifr_nodes.specs.Nodes.{options}
use Rattle.audit_html.specs.Html.{isolated}
use Rattle.question_audit.specs.Audited.{Audited}
use Rattle.question_audit.specs.OptionFacts.{own_denial}
use Rattle.question_rows.specs.Elements.{listed}

abbrev pub option_start : Bool → List ℕ
option_start is_denied = if is_denied then codes "<span class=\"off\">" else codes "<span>"

-- an option of the question at a place
abbrev pub option_item : Audited → ℕ → Node → List ℕ
option_item a place o =
    option_start (is_some (own_denial a.world place o)) ++ decimal (option_value o.op) ++ codes " "
    ++ isolated (a.texts (option_text o.op)) ++ codes "</span>"

abbrev pub options_part : Audited → Node → List ℕ
options_part a n =
    listed (codes "<div class=\"small dim\">") (codes "<br>") (codes "</div>")
    (map (option_item a n.place) (options n))
