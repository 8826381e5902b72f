use Rattle.form_page.proofs.LineLemmas.{whole_line}
use Rattle.form_page.proofs.row.put_row_value.Goals as goal

pub returns : goal.returns
returns g c = whole_line _ _ _ _ _ _ c.new-line.ensures c.put_value.ensures c.end.ensures
