-- Where a reference leads (own rule; UEFI 2.8, 33.3.8.3, EFI_IFR_REF): to a form of the form set, or to another form set, which zeros do
-- not name.
use Rattle.std.specs.Prelude.{ℕ, true, ◌==◌, if◌then◌else◌, Option, Some, None, List, [], ◌++◌, codes, decimal}
use Rattle.ifr_opcodes.specs.declared.codes.TheConstants.{REF}
use Rattle.ifr_opcodes.specs.Fields.{ref_form_set, ref_target}
use Rattle.ifr_opcodes.specs.Forest.{Node}
use Rattle.ifr_opcodes.specs.Opcode.{number}
use Rattle.ifr_nodes.specs.ReferenceFaults.{form_with}
use Rattle.audit_html.specs.Html.{link_to}
use Rattle.audit_text.specs.Texts.{guid_text}
use Rattle.question_audit.specs.Audited.{Audited}
use Rattle.question_audit.specs.QuestionLines.{names_no_set}
use Rattle.question_rows.specs.Elements.{small}
use Rattle.question_rows.specs.Links.{form_title_text}

abbrev pub form_part : Audited → ℕ → Option Node → List ℕ
form_part a id None = []
form_part a id (Some form) =
    codes "<p>to " ++ link_to (codes "f") form.place ++ form_title_text a form
    ++ codes "</a> <span class=\"dim\">form " ++ decimal id ++ codes "</span></p>"

abbrev pub set_part : Option (List ℕ) → List ℕ
set_part None = []
set_part (Some guid) =
    if names_no_set guid then []
    else small (codes "form set <code>" ++ guid_text true guid ++ codes "</code>")

abbrev pub led_part : Audited → List ℕ → Option ℕ → List ℕ
led_part a op None = set_part (ref_form_set op)
led_part a op (Some id) = form_part a id (form_with a.world.nodes id)

abbrev pub leads_part : Audited → Node → List ℕ
leads_part a n = if number n.op == REF then led_part a n.op (ref_target n.op) else []
