-- The tags of a page do not depend on what texts say.
use Rattle.std.proofs.Common.{◌≡◌, ℕ, Bool, false, List, ◌++◌, codes, refl, sym}
use Rattle.std.specs.Prelude.{decimal, filter, length}
use Rattle.ifr_opcodes.specs.Fields.{form_id, form_title}
use Rattle.ifr_opcodes.specs.Forest.{Node}
use Rattle.ifr_nodes.specs.Nodes.{is_form}
use Rattle.hii_questions.specs.Fields.{asked}
use Rattle.audit_html.specs.Html.{html_text, link_to}
use Rattle.audit_text.specs.Texts.{hex_text}
use Rattle.question_audit.specs.Audited.{Audited}
use Rattle.question_audit.specs.FormLines.{form_questions, reach_text}
use Rattle.question_audit.specs.Reach.{reach_of}
use Rattle.question_rows.specs.Links.{form_title_text}
use Rattle.question_rows.proofs.PlainLemmas.{text_plain}
use Rattle.report_audit.specs.Contents.{contents, form_item}
use Rattle.report_audit.specs.Counts.{counts_list}
use Rattle.report_audit.specs.Forms.{row_line, rows_head, section, section_head}
use Rattle.report_audit.specs.Heads.{form_set_counts, head, heading, policy_element, report_title, style_element}
use Rattle.report_audit.specs.Reports.{report}
use Rattle.report_audit.specs.laws.Tags.{AreEmptyAlike, tags, with_texts}
use Rattle.report_audit.proofs.RowTagLemmas.{alike_isolated, alike_row, alike_title}
use Rattle.report_audit.proofs.TagLemmas.{◌⋈◌, Alike, Closes, alike_each, alike_plain, alike_same, before_it, begun_behind, behind_it, closes_behind, closes_both}

abbrev title_start : List ℕ
title_start = codes "<meta name=\"viewport\" content=\"width=device-width,initial-scale=1\">\n<title>"

opened : Closes title_start
unfolding begun_behind
opened = closes_both refl refl

alike_head : (xs ys : List ℕ) → Alike (head xs) (head ys)
alike_head xs ys =
    before_it style_element (before_it (codes "</title>\n")
    (alike_plain (html_text xs) (html_text ys) (closes_behind (codes "<!doctype html>\n<html lang=\"en\">\n<meta charset=\"utf-8\">\n" ++ policy_element) opened) (text_plain xs) (text_plain ys)))

module _ (a : Audited) (others : ℕ → List ℕ) (is_reached : ℕ → Bool) (alike : AreEmptyAlike a.texts others) where
  abbrev other : Audited
  other = with_texts a others

  at_heading : Alike (heading a) (heading other)
  at_heading =
      behind_it (codes "<header>\n<h1>") (alike_isolated (report_title a) (report_title other)) ⋈ alike_same (codes "</h1>\n") ⋈ alike_same (form_set_counts a.world.nodes) ⋈ alike_same (counts_list a.world)
      ⋈ alike_same (codes "</header>\n")

  at_title : (form : Node) → Alike (form_title_text a form) (form_title_text other form)
  at_title form = alike_title (a.texts (form_title form.op)) (others (form_title form.op))

  at_item : (form : Node) → Alike (form_item a is_reached form) (form_item other is_reached form)
  at_item form =
      behind_it (codes "<li>" ++ link_to (codes "f") form.place) (at_title form) ⋈ alike_same (codes "</a> <span class=\"dim small\">") ⋈ alike_same (decimal (length (form_questions form)))
      ⋈ alike_same (reach_text (reach_of a.world is_reached form)) ⋈ alike_same (codes "</span>\n")

  at_contents : Alike (contents a is_reached) (contents other is_reached)
  at_contents =
      before_it (codes "</ol>\n</nav>\n") (behind_it (codes "<nav>\n<strong>Forms</strong>\n<ol>\n") (alike_each (form_item a is_reached) (form_item other is_reached) at_item (filter is_form a.world.nodes)))

  at_section_head : (form : Node) → Alike (section_head a is_reached form) (section_head other is_reached form)
  at_section_head form =
      behind_it (codes "<section>\n<h2 id=\"f" ++ hex_text form.place ++ codes "\">") (at_title form) ⋈ alike_same (codes " <span class=\"dim small\">form ") ⋈ alike_same (decimal (form_id form.op))
      ⋈ alike_same (reach_text (reach_of a.world is_reached form)) ⋈ alike_same (codes "</span></h2>\n")

  at_line : (n : Node) → Alike (row_line a n) (row_line other n)
  at_line n = before_it (codes "\n") (alike_row a others alike (asked a.world.nodes n))

  at_section : (form : Node) → Alike (section a is_reached form) (section other is_reached form)
  at_section form =
      at_section_head form ⋈ alike_same (rows_head (length (form_questions form))) ⋈ alike_each (row_line a) (row_line other) at_line (form_questions form) ⋈ alike_same (codes "</section>\n")

  alike_report : Alike (report a is_reached) (report other is_reached)
  alike_report =
      alike_head (report_title a) (report_title other) ⋈ at_heading ⋈ at_contents ⋈ alike_same (codes "<main>\n")
      ⋈ alike_each (section a is_reached) (section other is_reached) at_section (filter is_form a.world.nodes) ⋈ alike_same (codes "</main>\n")

  pub same_tags : tags (report other is_reached) ≡ tags (report a is_reached)
  same_tags = sym (alike_report.same false)
