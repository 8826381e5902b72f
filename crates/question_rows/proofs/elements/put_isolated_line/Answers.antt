use Rattle.hii_bytes.proofs.WritingLemmas.{◌⨾◌}
use Rattle.question_rows.proofs.elements.put_isolated_line.Goals as goal

pub returns : goal.returns
returns g c = c.put.ensures ⨾ c.put_html_line.ensures ⨾ c.put-2.ensures
