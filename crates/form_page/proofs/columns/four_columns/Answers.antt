use Rattle.std.proofs.Common.{sym}
use Rattle.form_page.proofs.ColumnLemmas.{in_four}
use Rattle.form_page.proofs.columns.four_columns.Goals as goal

pub returns : goal.returns
returns c = sym (in_four c.args.n c.requires.least c.requires.most)
