use Rattle.std.proofs.Common.{List, ℕ}
use Rattle.audit_html.specs.Html.{html_text}
use Rattle.question_rows.specs.Elements.{html_line}
use Rattle.question_rows.proofs.PlainLemmas.{line_plain, text_plain}
use Rattle.report_audit.proofs.PageTagLemmas.{same_tags}
use Rattle.report_audit.proofs.TagLemmas.{plain_tags}
use Rattle.report_audit.proofs.laws.tags_depend_on_no_text.Goals as goal

pub returns-clause-page : goal.returns-clause-page
returns-clause-page c = λ a others is_reached alike. same_tags a others is_reached alike

pub returns-clause-texts : goal.returns-clause-texts
returns-clause-texts c = λ (text : List ℕ). plain_tags (html_text text) (text_plain text)

pub returns-clause-lines : goal.returns-clause-lines
returns-clause-lines c = λ (line : List ℕ). plain_tags (html_line line) (line_plain line)
