-- What a page begins with (HTML Living Standard, 4.2 Document metadata; Content Security Policy Level 3; which elements it has is an
-- own rule).
use Rattle.std.specs.Prelude.{ℕ, true, List, [], ◌∷◌, ◌++◌, codes, decimal, filter, length}
use Rattle.ifr_opcodes.specs.Fields.{form_set_guid, form_set_title}
use Rattle.ifr_opcodes.specs.Forest.{Node}
use Rattle.ifr_nodes.specs.Nodes.{is_form}
use Rattle.hii_questions.specs.Fields.{questions}
use Rattle.audit_html.specs.Html.{html_text, isolated}
use Rattle.audit_text.specs.Texts.{guid_text}
use Rattle.question_audit.specs.Audited.{Audited}
use Rattle.report_audit.specs.Counts.{counts_list}
use Rattle.report_audit.specs.declared.style.TheConstants.{STYLE, STYLE_DIGEST}

-- nothing may be loaded, and no style but that of this digest may stand in the page
abbrev pub policy_element : List ℕ
policy_element =
    codes "<meta http-equiv=\"Content-Security-Policy\" content=\"default-src 'none'; style-src 'sha256-"
    ++ STYLE_DIGEST.now ++ codes "'; base-uri 'none'; form-action 'none'\">\n"

abbrev pub style_element : List ℕ
style_element = codes "<style>" ++ STYLE.now ++ codes "</style>\n"

-- what stands before the body, with a title
abbrev pub head : List ℕ → List ℕ
head title =
    codes "<!doctype html>\n<html lang=\"en\">\n<meta charset=\"utf-8\">\n" ++ policy_element
    ++ codes "<meta name=\"viewport\" content=\"width=device-width,initial-scale=1\">\n<title>"
    ++ html_text title ++ codes "</title>\n" ++ style_element

-- the opcode of the form set, with which its package begins
abbrev pub form_set_op : List Node → List ℕ
form_set_op [] = []
form_set_op (form_set ∷ ns) = form_set.op

abbrev pub report_title : Audited → List ℕ
report_title a = a.texts (form_set_title (form_set_op a.world.nodes))

-- what names the form set, and how many forms and questions it has
abbrev pub form_set_counts : List Node → List ℕ
form_set_counts ns =
    codes "<p class=\"dim\">Form set <code>" ++ guid_text true (form_set_guid (form_set_op ns))
    ++ codes "</code>, " ++ decimal (length (filter is_form ns)) ++ codes " forms, "
    ++ decimal (length (questions ns)) ++ codes " questions</p>\n"

-- its title, and how many of its questions may be changed
abbrev pub heading : Audited → List ℕ
heading a =
    codes "<header>\n<h1>" ++ isolated (report_title a) ++ codes "</h1>\n"
    ++ form_set_counts a.world.nodes ++ counts_list a.world ++ codes "</header>\n"
